pub mod Seeds
pub mod Laws
