pub mod Texts
pub mod Prefixes
pub mod Maps
pub mod Laws
