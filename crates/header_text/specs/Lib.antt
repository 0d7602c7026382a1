-- What each file is stands at its head.
pub mod Text
pub mod Number
pub mod Size
pub mod Parts
pub mod Cases
pub mod Place
