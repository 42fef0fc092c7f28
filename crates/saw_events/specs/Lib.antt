pub mod Messages
pub mod Events
pub mod Telling
pub mod Replays
pub mod Following
pub mod Laws
