pub mod Adding
pub mod Widening
pub mod Kinds
