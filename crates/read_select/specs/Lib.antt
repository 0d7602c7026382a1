-- What each file is stands at its head.
pub mod Pass
pub mod Word
pub mod Iteration
pub mod Count
pub mod Fill
pub mod Uses
pub mod Parts
