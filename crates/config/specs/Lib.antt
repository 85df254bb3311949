pub mod Questions
pub mod Config
pub mod Limits
pub mod Laws
pub mod Facts
