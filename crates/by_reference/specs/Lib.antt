pub mod Answers
pub mod Search
