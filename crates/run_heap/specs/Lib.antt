pub mod Held
pub mod Worlds
pub mod Answers
pub mod Targets
pub mod bodies
