-- The root of the definitions and laws of runs: what each file is stands at its head.
pub mod Runs
pub mod Marks
pub mod Vectors
