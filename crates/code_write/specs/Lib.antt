pub mod Constants
pub mod Coded
pub mod rows
pub mod bodies
