-- Definitions that the proofs of bodies alone need.
pub mod Inherited
pub mod Overriding
pub mod Tested
pub mod Walks
