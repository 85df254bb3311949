pub mod Bools
pub mod Decides
pub mod Kinds
pub mod Lists
pub mod Arrays
pub mod ListLaws
pub mod Order
pub mod OrderLaws
