pub mod Computed
pub mod Stepping
