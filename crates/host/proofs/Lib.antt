pub mod Refused
pub mod Shown
