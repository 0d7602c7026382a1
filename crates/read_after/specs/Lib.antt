-- What each file is stands at its head.
pub mod After
