pub mod Covering
pub mod Digits
pub mod Finite
pub mod Pairs
pub mod Parts
