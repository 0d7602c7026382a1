pub mod LineLaws
pub mod AnswerLaws
pub mod Examples
pub mod HeaderLaws
