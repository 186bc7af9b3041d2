pub mod Fresh
pub mod Reserved
pub mod Given
pub mod Laws
pub mod bodies
