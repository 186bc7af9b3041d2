pub mod Pieces
pub mod Reading
pub mod Laws
pub mod bodies
