-- Definitions that the proofs of bodies alone need.
pub mod Wanting
pub mod Selecting
pub mod Supers
pub mod Alone
pub mod Tops
