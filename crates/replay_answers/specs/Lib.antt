pub mod Entries
pub mod Tallies
pub mod Verdicts
