pub mod Kinds
pub mod Named
pub mod Tokens
pub mod Words
pub mod Settled
