-- What each file is stands at its head.
pub mod Decoder
pub mod Laws
pub mod Stepping
