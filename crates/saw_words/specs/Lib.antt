pub mod Given
pub mod Options
pub mod Numbers
pub mod Clap
pub mod Laws
