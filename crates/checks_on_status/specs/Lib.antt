pub mod OnStatus
pub mod MissingLaws
pub mod Laws
