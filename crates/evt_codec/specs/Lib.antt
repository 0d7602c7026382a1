pub mod Reader
pub mod Codec
pub mod Decode
pub mod Triggers
pub mod Sound
