pub mod NewNames
pub mod Mapped
pub mod bodies
