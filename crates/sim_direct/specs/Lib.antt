pub mod Direct
pub mod Laws
pub mod Asked
pub mod AskedLaws
