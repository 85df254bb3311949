pub mod Log
pub mod Places
pub mod Payloads
pub mod Laws
