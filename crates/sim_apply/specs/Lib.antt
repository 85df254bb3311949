pub mod Applies
pub mod Laws
pub mod ReplyLaws
pub mod ApplyLaws
