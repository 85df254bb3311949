pub mod Servers
pub mod Closes
pub mod Fits
pub mod ServerLaws
pub mod CloseLaws
