-- The root of the laws of a run's words: what each file is stands at its head.
pub mod Parts
pub mod Loops
pub mod Masks
