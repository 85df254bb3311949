pub mod Trace
pub mod Unfolded
pub mod Short
pub mod Theorem
