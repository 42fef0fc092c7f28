pub mod Payloads
pub mod States
pub mod Actions
pub mod Laws
