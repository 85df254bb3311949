pub mod Steps
pub mod Fits
pub mod EventLaws
pub mod Openings
pub mod StepLaws
