pub mod ByCall
pub mod Lists
pub mod Examples
