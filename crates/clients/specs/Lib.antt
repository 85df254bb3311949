pub mod Clients
pub mod ClientLaws
pub mod Confirmations
pub mod ConfirmationLaws
