pub mod Numbers
pub mod Windows
pub mod Held
pub mod Changes
pub mod Shown
pub mod There
