pub mod OnWrite
pub mod OnWrites
pub mod Laws
pub mod WritesLaws
