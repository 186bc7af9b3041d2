pub mod Frames
pub mod Outcomes
pub mod Arguments
pub mod bodies
