pub mod Orders
pub mod Serial
pub mod Machine
pub mod Laws
