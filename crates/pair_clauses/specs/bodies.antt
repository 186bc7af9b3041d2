-- Definitions that the proofs of bodies alone need.
pub mod FixedKinds
pub mod Lines
pub mod Ranges
pub mod Seen
pub mod Standing
