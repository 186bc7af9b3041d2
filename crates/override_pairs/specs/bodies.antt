-- Definitions that the proofs of bodies alone need.
pub mod Counting
pub mod Overriding
pub mod Free
pub mod Above
