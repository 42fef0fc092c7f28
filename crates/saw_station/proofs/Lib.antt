pub mod Giving
pub mod Recorded
pub mod Talks
pub mod Replays
pub mod Conversed
pub mod Covered
pub mod Finished
pub mod Rows
