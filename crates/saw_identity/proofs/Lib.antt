pub mod Short
pub mod Offers
pub mod Kept
pub mod Rulings
mod Roles
