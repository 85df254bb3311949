pub mod Postcard
pub mod Lengths
