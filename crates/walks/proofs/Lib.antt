pub mod Plain
pub mod Call
pub mod Close
pub mod Lent
pub mod Thin
pub mod Fold
