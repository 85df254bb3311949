pub mod Links
pub mod LinkLaws
pub mod NetworkCode
pub mod Laws
