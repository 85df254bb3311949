pub mod Given
pub mod Laws
pub mod Called
pub mod CalledLaws
pub mod Exports
