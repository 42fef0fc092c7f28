pub mod Payloads
pub mod Games
pub mod Moves
pub mod Maps
pub mod Changes
pub mod Texts
pub mod Actions
pub mod Laws
