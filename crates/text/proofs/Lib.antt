pub mod Laws
pub mod Decimals
pub mod Lengths
pub mod Grown
pub mod Examples
