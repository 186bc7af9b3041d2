-- Definitions that the proofs of bodies alone need.
pub mod Steps
pub mod Workers
