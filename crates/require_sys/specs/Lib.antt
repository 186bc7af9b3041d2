pub mod Requires
pub mod Closing
pub mod Limits
pub mod bodies
