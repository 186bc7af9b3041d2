-- Definitions that the proofs of bodies alone need.
pub mod Asked
pub mod Chained
pub mod Changes
pub mod Declared
pub mod FirstFaults
pub mod Halves
pub mod Known
pub mod Longs
pub mod Marking
pub mod Marks
pub mod Noting
pub mod Places
pub mod Pops
pub mod Seen
pub mod Since
pub mod Steps
pub mod Walked
