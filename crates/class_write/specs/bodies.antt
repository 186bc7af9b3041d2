-- Definitions that the proofs of bodies alone need.
pub mod Pushes
pub mod Placing
pub mod Writing
pub mod Limits
pub mod Files
