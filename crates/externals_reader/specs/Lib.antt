pub mod Answers
pub mod Calls
pub mod Locals
pub mod Ready
