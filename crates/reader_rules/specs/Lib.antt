pub mod Each
pub mod State
pub mod Turns
pub mod Rules
pub mod Offsets
