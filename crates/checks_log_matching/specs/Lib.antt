pub mod Matching
pub mod Laws
pub mod Pairs
pub mod PairLaws
pub mod Facts
