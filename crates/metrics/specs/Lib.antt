pub mod Metrics
pub mod Laws
pub mod Facts
