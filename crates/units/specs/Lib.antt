pub mod Types
pub mod PayloadLaws
pub mod Time
pub mod Refusals
pub mod RefusalLaws
pub mod Facts
