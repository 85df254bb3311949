pub mod ClientEvents
pub mod Redirects
pub mod Replies
pub mod EventLaws
pub mod RedirectLaws
pub mod ReplyLaws
