pub mod Paths
pub mod Put
pub mod Texts
pub mod Own
