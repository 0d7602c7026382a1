pub mod LeadsLaws
pub mod LoopsLaws
