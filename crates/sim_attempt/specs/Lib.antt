pub mod Attempts
pub mod Networks
pub mod Laws
pub mod Acts
