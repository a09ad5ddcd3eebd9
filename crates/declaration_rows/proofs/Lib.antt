pub mod HeadLaws
pub mod MemberLaws
pub mod RowLaws
pub mod KindLaws
pub mod TestLaws
