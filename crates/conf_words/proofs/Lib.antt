pub mod Cutting
pub mod Runs
pub mod Begins
pub mod Parsed
pub mod Seeing
