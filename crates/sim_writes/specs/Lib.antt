pub mod Writes
pub mod Laws
