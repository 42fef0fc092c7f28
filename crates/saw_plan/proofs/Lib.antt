pub mod Transactions
pub mod Rest
pub mod Whole
pub mod Pairs
pub mod Adding
pub mod Fronts
