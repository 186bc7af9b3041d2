pub mod Jobs
pub mod Batch
pub mod Caught
pub mod Finding
pub mod Answer
pub mod Laws
pub mod bodies
