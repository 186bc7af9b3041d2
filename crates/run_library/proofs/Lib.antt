pub mod Horner
pub mod Comparing
