-- What each file is stands at its head.
pub mod Handover
pub mod Headed
pub mod Cut
pub mod Calls
pub mod Fronts
pub mod Reading
pub mod Proof
pub mod Again
pub mod Ran
pub mod Called
