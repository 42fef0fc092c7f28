pub mod Lanes
pub mod Rests
pub mod Claims
pub mod Apart
