pub mod Findings
pub mod Rows
pub mod Turns
