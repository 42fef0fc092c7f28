pub mod Numbers
pub mod Views
pub mod Leaves
pub mod Steps
pub mod Loops
pub mod Puts
pub mod Results
pub mod Cuts
pub mod Heads
pub mod Again
pub mod Found
pub mod Written
mod Rfc
