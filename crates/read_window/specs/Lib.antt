-- What each file is stands at its head.
pub mod Window
pub mod Trim
pub mod Extent
