pub mod Index
pub mod Work
pub mod Ready
pub mod Sweep
