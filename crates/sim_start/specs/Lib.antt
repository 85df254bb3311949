pub mod Fill
pub mod Start
pub mod FillLaws
pub mod Words
pub mod Fits
pub mod ContentLaws
pub mod Laws
