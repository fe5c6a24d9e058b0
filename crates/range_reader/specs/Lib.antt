pub mod Ready
pub mod Locals
pub mod Calls
