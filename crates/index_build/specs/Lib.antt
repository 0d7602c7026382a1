-- What each file is stands at its head.
pub mod Index
pub mod Nth
pub mod Build
pub mod Laws
pub mod Stage
pub mod Open
