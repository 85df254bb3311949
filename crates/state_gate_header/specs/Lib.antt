pub mod Regions
pub mod Header
pub mod PhaseLaws
pub mod RegionLaws
pub mod Laws
