-- The root of the definitions of EVT3's words: what each file is stands at its head.
pub mod Evt3
pub mod Leads
pub mod Loops
