pub mod Headers
pub mod HeadParts
pub mod Kinds
pub mod Files
