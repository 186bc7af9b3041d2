pub mod Behind
pub mod Classes
pub mod Computed
