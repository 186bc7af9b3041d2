pub mod Checked
pub mod Commands
pub mod Batches
pub mod Again
