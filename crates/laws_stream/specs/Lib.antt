-- The root of the laws: what each file is stands at its head.
pub mod Part
pub mod Machine
pub mod Words
pub mod Mask
pub mod Loop
pub mod Order
pub mod Slice
pub mod Select
pub mod Seek
pub mod PassOver
pub mod Beside
pub mod Format
pub mod Stream
pub mod Columns
