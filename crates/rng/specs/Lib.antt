pub mod Rng
pub mod Laws
pub mod Facts
