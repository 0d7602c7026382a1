-- What each file is stands at its head.
pub mod Made
pub mod Statement
pub mod Writing
