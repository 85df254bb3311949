pub mod Claim
pub mod States
pub mod OnArea
pub mod Areas
