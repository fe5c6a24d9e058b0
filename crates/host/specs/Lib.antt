pub mod Shapes
pub mod Calls
