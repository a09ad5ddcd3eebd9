pub mod Tags
pub mod Braces
