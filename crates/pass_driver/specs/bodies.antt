-- Definitions that the proofs of bodies alone need.
pub mod After
pub mod Spotted
pub mod Parts
