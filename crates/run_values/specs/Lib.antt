pub mod References
pub mod Takes
pub mod Slots
pub mod bodies
