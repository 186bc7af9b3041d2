pub mod Alike
pub mod Shape
pub mod BareSets
