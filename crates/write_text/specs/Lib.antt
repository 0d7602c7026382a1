-- The root of texts and decimal numbers: what each file is stands at its head.
pub mod Text
pub mod Stored
