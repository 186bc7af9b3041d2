pub mod Reach
pub mod Taken
pub mod Doing
pub mod Removed
