-- What each file is stands at its head.
pub mod Reading
pub mod Promises
pub mod Word
