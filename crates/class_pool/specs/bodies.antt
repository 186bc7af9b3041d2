-- Definitions that the proofs of bodies alone need.
pub mod Numbers
pub mod ByName
pub mod ToldMembers
pub mod Descriptors
pub mod Graph
pub mod Marked
pub mod Lists
pub mod SharedLists
pub mod Filling
pub mod Tables
pub mod Cycles
pub mod Faults
pub mod Supers
pub mod Notes
