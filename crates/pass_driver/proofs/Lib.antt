pub mod LeftReached
mod Stepping
pub mod Spotting
mod Faults
mod Parting
