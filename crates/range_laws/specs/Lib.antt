pub mod OneRange
