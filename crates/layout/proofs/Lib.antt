pub mod JudgingLaws
pub mod LoopLaws
pub mod WholeLaws
