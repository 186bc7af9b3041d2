pub mod Inits
pub mod States
pub mod bodies
