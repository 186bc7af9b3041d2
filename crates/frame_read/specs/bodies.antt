-- Definitions that the proofs of bodies alone need.
pub mod Rows
pub mod Numbers
pub mod Before
