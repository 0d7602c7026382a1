-- The root of the writer's definitions and laws: what each file is stands at its head.
pub mod Encode
pub mod Laws
pub mod Pass3
pub mod Across3
