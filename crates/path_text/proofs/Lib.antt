pub mod Segments
pub mod Below
