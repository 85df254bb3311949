pub mod Outputs
pub mod Theorem
pub mod Sentence
