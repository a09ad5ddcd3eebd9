pub mod Pages
pub mod PageLaws
pub mod Lines
pub mod LineLaws
pub mod Answers
pub mod Layouts
pub mod LayoutLaws
pub mod Room
