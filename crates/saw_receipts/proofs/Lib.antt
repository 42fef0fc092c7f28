pub mod ReadBatches
pub mod Testing
pub mod Ways
