-- What each file is stands at its head.
pub mod Asked
pub mod Own
pub mod Opened
pub mod During
pub mod Example
