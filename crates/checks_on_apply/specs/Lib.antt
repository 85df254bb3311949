pub mod OnApply
pub mod Laws
