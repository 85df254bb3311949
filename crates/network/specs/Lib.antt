pub mod Network
pub mod Laws
pub mod Ranges
pub mod Facts
