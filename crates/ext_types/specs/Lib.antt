pub mod Time
pub mod Keys
