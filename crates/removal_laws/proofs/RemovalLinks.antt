pub mod Instructions
pub mod Implementing
pub mod Overriding
pub mod Places
pub mod Left
