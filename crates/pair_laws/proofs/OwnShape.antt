pub mod Searching
pub mod Clashing
pub mod Members
pub mod Lines
pub mod Fits
pub mod Names
