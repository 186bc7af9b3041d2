-- Definitions that the proofs of bodies alone need.
pub mod PoolEntries
pub mod TypeLists
pub mod HeldFrames
pub mod Building
