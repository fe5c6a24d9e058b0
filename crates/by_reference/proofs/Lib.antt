pub mod Refused
pub mod Routes
