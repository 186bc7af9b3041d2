pub mod Line
pub mod List
pub mod Overlap
