pub mod Refusals
pub mod Config
pub mod OneConfig
pub mod Sets
pub mod System
pub mod Texts
