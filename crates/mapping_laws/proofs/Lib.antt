mod Alike
mod Shaped
mod AllMarked
pub mod Whole
