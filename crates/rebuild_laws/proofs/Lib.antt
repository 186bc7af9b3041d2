mod Types
mod Ordered
mod Standing
mod News
pub mod Kept
pub mod Naming
