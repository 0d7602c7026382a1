-- The root of the header that a writer sends: what each file is stands at its head.
pub mod Header
