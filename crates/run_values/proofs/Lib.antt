pub mod Cells
pub mod Counts
