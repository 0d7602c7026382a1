pub mod Evt2Laws
pub mod RangeLaws
pub mod TriggersLaws
