pub mod LoopLaws
pub mod MaskLaws
pub mod PassOverLaws
pub mod SeekLaws
pub mod SelectLaws
pub mod SliceLaws
pub mod StreamLaws
pub mod WordsLaws
