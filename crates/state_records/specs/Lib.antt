pub mod Records
pub mod Fits
pub mod Lent
pub mod ClientRows
pub mod ReplyRows
pub mod ConfirmationRows
pub mod ReadRows
pub mod DiscardedLaws
