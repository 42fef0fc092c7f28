pub mod Entries
pub mod Trees
pub mod Places
pub mod Searches
pub mod Thinned
pub mod Puts
