pub mod Members
pub mod bodies
