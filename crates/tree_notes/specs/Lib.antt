pub mod Notes
pub mod bodies
