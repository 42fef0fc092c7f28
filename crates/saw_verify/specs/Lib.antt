pub mod Marks
pub mod Lists
pub mod Held
pub mod Laws
