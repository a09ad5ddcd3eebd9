pub mod DescTerms
pub mod DescLimits
pub mod Counts
pub mod Halves
pub mod Items
pub mod Fields
