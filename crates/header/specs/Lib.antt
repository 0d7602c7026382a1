pub mod Lines
pub mod Header
pub mod Notes
pub mod Laws
