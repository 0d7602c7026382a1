pub mod EndsLaws
pub mod ResumeLaws
