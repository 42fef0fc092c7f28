pub mod Applied
pub mod AppliedAgain
mod Drafting
mod Drops
mod Executed
pub mod Fitting
pub mod GoodBlocks
pub mod HexTexts
mod Judged
mod Making
mod Planned
mod Putting
mod Roomy
mod RulesAgain
mod SerialAgain
pub mod Sizes
mod Staying
mod Taking
pub mod Told
mod Written
