pub mod Laws
pub mod Lengths
pub mod Examples
