pub mod Evt3
pub mod Decode
pub mod Range
pub mod Triggers
pub mod Loops
