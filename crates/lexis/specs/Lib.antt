pub mod Classes
pub mod Skips
pub mod Leaves
pub mod CommaLists
pub mod Settled
pub mod Prefixes
