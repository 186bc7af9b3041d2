pub mod Apart
pub mod Giving
