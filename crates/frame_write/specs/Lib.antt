pub mod Writing
pub mod Forms
pub mod bodies
