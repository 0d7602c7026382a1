pub mod RangeLaws
pub mod TriggersLaws
