pub mod Addresses
pub mod Addressed
pub mod Fronts
pub mod Sound
