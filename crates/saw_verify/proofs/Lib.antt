mod Digests
pub mod Places
pub mod LineSets
pub mod Triples
pub mod Listed
pub mod ReadBack
