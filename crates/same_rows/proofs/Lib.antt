pub mod Computed
pub mod Promised
