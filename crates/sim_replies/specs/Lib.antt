pub mod Replies
pub mod Laws
pub mod TellLaws
pub mod RedirectLaws
