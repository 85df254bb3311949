pub mod Schedule
pub mod Answers
pub mod Draws
pub mod Splits
pub mod Kinds
pub mod Plans
pub mod Moves
