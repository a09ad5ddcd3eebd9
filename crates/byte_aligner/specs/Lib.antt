pub mod Answers
pub mod Records
pub mod Plans
pub mod SameRecords
pub mod Outcomes
pub mod Words
