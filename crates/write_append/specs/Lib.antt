-- The root of the writer's definitions and laws: what each file is stands at its head.
pub mod Append
pub mod Rising
pub mod Ends
pub mod Laws
