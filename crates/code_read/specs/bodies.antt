-- Definitions that the proofs of bodies alone need.
pub mod Fault
pub mod Meaning
pub mod Targets
