pub mod Sample
pub mod Anchors
pub mod Masterchain
