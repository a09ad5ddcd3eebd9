pub mod ChoiceLaws
pub mod PlaceLaws
pub mod Utf8Laws
pub mod Utf8Longest
pub mod ConvertLaws
pub mod Fitting
