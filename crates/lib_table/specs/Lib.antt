pub mod Library
pub mod Lookups
pub mod bodies
