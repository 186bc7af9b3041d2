pub mod Spelled
pub mod Kinds
