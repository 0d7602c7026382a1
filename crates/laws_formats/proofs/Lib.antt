pub mod Appends
pub mod Either
pub mod Lawful2
pub mod Lawful21
pub mod Lawful3
