-- The root of the definitions and laws of EVT2's words: what each file is stands at its head.
pub mod Evt2
pub mod Pass2
