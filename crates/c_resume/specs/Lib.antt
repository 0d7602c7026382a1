-- What each file is stands at its head.
pub mod Resume
pub mod Laws
pub mod Promises
