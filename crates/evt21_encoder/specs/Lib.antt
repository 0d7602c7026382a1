-- The root of the definitions and laws of EVT 2.1's words: what each file is stands at its head.
pub mod Evt21
pub mod Pass21
