pub mod Distinct
pub mod Entries
pub mod Replaces
pub mod Kept
pub mod Reasons
pub mod ReadBack
pub mod PayloadLemmas
