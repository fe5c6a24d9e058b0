pub mod AllRanges
pub mod Steps
pub mod Answers
