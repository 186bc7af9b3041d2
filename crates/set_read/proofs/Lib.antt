pub mod Few
mod Files
mod Judging
mod Methods
mod Sets
pub mod Writable
pub mod OneSet
