-- What each file is stands at its head.
pub mod Slice
pub mod Times
pub mod From
pub mod Laws
