pub mod Rows
pub mod Links
