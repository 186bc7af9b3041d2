-- Definitions that the proofs of bodies alone need.
pub mod Ends
pub mod Fitting
pub mod Marks
pub mod Slots
pub mod Told
