pub mod Views
pub mod Kept
pub mod Claim
pub mod Corollaries
pub mod Free
pub mod Values
pub mod Answers
pub mod Log
