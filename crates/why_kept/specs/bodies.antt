-- Definitions that the proofs of bodies alone need.
pub mod ByItem
pub mod Searching
pub mod Noting
pub mod Telling
