pub mod PassOver
pub mod Plan
