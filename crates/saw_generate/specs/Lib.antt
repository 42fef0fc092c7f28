pub mod LowerFaults
pub mod Draws
pub mod Operations
pub mod Signed
pub mod Streams
pub mod Chains
pub mod Laws
