pub mod Evt21
pub mod Decode
pub mod Range
pub mod Triggers
pub mod Loops
