pub mod Started
pub mod Ended
pub mod Examples
