pub mod Cutting
pub mod Known
mod Alike
