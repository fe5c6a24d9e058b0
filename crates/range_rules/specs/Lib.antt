pub mod Walks
pub mod Rules
pub mod WalkEnd
pub mod Bounds
pub mod Refusals
