-- What each file is stands at its head.
pub mod Seek
pub mod Iteration
pub mod Times
pub mod Back
pub mod Loops
pub mod Put
pub mod Skip
pub mod Laws
