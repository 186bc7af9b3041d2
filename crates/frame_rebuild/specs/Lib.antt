pub mod Carried
pub mod Rebuilt
pub mod bodies
