-- The root of what an append is judged by: what each file is stands at its head.
pub mod Range
pub mod Rules
pub mod Checks
pub mod Blocks
