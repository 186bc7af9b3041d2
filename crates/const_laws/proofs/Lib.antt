pub mod Own
pub mod Once
pub mod Fixed
pub mod Reached
