pub mod BetweenTags
pub mod BetweenFields
pub mod BetweenDeclarations
pub mod Ascending
pub mod Names
