pub mod KeptAttributes
pub mod Filtered
