pub mod Syncs
pub mod Laws
