pub mod Spelled
pub mod Formed
pub mod Valued
pub mod Apart
pub mod Given
pub mod GivenWritable
