pub mod Folding
pub mod Known
pub mod Running
pub mod Taking
