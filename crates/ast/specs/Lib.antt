pub mod RowLaws
pub mod Names
pub mod Tables
