pub mod Deliver
pub mod Laws
