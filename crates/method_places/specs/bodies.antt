-- Definitions that the proofs of bodies alone need.
pub mod Marks
pub mod Alike
pub mod Nearest
pub mod Places
