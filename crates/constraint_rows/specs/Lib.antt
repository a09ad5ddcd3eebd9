pub mod Constraints
pub mod OptionalLists
pub mod Settled
