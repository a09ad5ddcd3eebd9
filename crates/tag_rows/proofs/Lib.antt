pub mod Laws
pub mod Ranges
