pub mod Required
mod Names
mod Alike
mod Files
mod Lines
pub mod Sets
pub mod Answered
pub mod Edits
