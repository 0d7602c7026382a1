-- What each file is stands at its head.
pub mod Writer
pub mod Laws
pub mod Promises
