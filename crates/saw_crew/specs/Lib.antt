pub mod Desks
pub mod Stored
pub mod Alone
pub mod Failing
pub mod Rounds
pub mod Lanes
pub mod Offered
pub mod Laws
