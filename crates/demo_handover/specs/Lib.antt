-- The root of the demonstration's definitions and laws: what each file is stands at its head.
pub mod Given
pub mod Compare
