pub mod Ends
pub mod Laws
pub mod StatusLaws
pub mod EndLaws
