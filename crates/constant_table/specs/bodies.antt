-- Definitions that the proofs of bodies alone need.
pub mod Keys
pub mod Texts
pub mod Members
pub mod Indices
