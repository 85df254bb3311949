pub mod Fault
pub mod Laws
pub mod Facts
