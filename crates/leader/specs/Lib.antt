pub mod Leader
pub mod Laws
pub mod Chosen
pub mod Facts
