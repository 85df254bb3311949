pub mod Given
pub mod GivenLaws
pub mod Schedule
pub mod ScheduleLaws
