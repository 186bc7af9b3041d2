-- Definitions that the proofs of bodies alone need.
pub mod Times
pub mod Walking
