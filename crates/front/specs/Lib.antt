pub mod Numbers
pub mod Layouts
pub mod Names
pub mod Sources
pub mod Endings
