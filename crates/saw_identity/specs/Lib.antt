pub mod Messages
pub mod Addresses
pub mod Actions
pub mod Reasons
pub mod Stations
pub mod Permissions
pub mod Standing
pub mod Laws
