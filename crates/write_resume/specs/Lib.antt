-- What each file is stands at its head.
pub mod Resume
pub mod Ends
pub mod Laws
