-- What each file is stands at its head.
pub mod Decode
pub mod Iteration
pub mod Loops
pub mod Extent
pub mod Laws
