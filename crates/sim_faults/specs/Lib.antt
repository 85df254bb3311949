pub mod Faults
pub mod Fits
pub mod Laws
