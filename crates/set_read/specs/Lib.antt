pub mod Accepted
pub mod OneSet
pub mod bodies
