pub mod Stepped
pub mod Outcomes
pub mod Optimised
pub mod bodies
