pub mod Returned
pub mod Demands
