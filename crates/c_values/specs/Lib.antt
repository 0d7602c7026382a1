-- What each file is stands at its head.
pub mod Flags
pub mod Options
pub mod Encoding
pub mod Codec
pub mod Reading
pub mod Number
pub mod Promises
