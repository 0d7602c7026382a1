-- What each file is stands at its head.
pub mod Ready
pub mod Lawful2
pub mod Lawful21
pub mod Lawful3
pub mod Either
pub mod Appends
