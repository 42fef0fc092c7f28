pub mod Heads
pub mod Words
pub mod Passes
pub mod Snapshots
pub mod Replies
pub mod Faults
pub mod Serving
pub mod Cells
