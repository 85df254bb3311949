pub mod Typed
pub mod Counting
