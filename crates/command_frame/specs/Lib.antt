pub mod Refusal
pub mod Output
pub mod Saying
pub mod Steps
pub mod Answer
pub mod LeftFiles
pub mod bodies
