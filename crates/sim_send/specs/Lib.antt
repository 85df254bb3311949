pub mod Sends
pub mod Laws
pub mod Draws
pub mod Acts
pub mod SendLaws
