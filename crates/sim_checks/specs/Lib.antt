pub mod Steps
pub mod StepLaws
pub mod Matching
pub mod MatchingLaws
pub mod Durability
pub mod DurabilityLaws
