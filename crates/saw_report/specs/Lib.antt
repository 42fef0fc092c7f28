pub mod Lines
pub mod RunFaults
pub mod Proofs
pub mod Events
