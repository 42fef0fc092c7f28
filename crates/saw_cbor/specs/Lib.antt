pub mod Data
pub mod Spelling
pub mod Reading
pub mod Writing
pub mod Laws
pub mod View
