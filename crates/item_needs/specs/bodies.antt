-- Definitions that the proofs of bodies alone need.
pub mod Counting
pub mod Asked
pub mod Frames
pub mod Needs
pub mod Known
