pub mod bodies
