pub mod Outputs
pub mod Timers
pub mod Confirmations
pub mod Laws
pub mod TimerLaws
pub mod SetTimerLaws
pub mod ConfirmationLaws
