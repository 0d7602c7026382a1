-- The root of what a writer rests on: what each file is stands at its head.
pub mod Columns
pub mod Due
pub mod Emits
pub mod Every
pub mod Sent
pub mod Storing
pub mod Lent
