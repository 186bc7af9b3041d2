pub mod Kept
pub mod Places
pub mod Known
pub mod Taking
pub mod Rounds
pub mod Joining
