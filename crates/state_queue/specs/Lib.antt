pub mod Events
pub mod Fits
pub mod Laws
pub mod Sends
