pub mod Types
pub mod Marks
pub mod Chunks
pub mod Start
pub mod Table
pub mod Blocks
