pub mod Laws
pub mod Asked
pub mod Adding
pub mod Answers
pub mod Refused
