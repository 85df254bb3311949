pub mod Listed
pub mod ListLaws
pub mod Schedules
pub mod AnswerLaws
