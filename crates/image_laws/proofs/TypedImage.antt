pub mod Assigning
pub mod Acting
pub mod Ruling
pub mod Instructions
pub mod Walking
pub mod Guarding
pub mod Staying
