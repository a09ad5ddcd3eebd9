pub mod Lists
pub mod Enough
pub mod Examples
