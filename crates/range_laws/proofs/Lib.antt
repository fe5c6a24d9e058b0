pub mod Entered
pub mod Laws
pub mod Conservation
pub mod Kept
