pub mod IdSets
pub mod Parting
