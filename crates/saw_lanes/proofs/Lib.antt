mod Merge
pub mod Keeping
