-- The root of the definitions and laws of the listing: what each file is stands at its head.
pub mod Listing
pub mod Lines
