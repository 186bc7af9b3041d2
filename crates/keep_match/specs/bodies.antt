-- Definitions that the proofs of bodies alone need.
pub mod AsKeeps
pub mod AsFixing
pub mod Above
pub mod Marks
pub mod Tables
pub mod Scan
