pub mod Moves
pub mod Kept
pub mod Laws
pub mod Fits
