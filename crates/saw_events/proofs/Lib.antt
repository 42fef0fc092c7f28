mod Filters
mod Untold
mod Deltas
mod News
mod ListBack
mod AtDigits
pub mod LastShown
