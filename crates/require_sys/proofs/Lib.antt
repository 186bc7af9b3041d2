pub mod Numbering
pub mod Steps
pub mod Parts
pub mod Closing
pub mod Running
