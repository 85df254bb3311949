pub mod Tests
pub mod Blocks
pub mod Laws
