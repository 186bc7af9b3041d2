-- Definitions that the proofs of bodies alone need.
pub mod DescriptorPlaces
pub mod Decoding
pub mod External
