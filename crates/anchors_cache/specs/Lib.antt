pub mod Answers
pub mod Tables
pub mod Windows
pub mod Calls
pub mod Values
