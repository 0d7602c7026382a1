-- What each file is stands at its head.
pub mod Records
pub mod Opening
pub mod Slicing
pub mod Making
pub mod Back
pub mod Promises
