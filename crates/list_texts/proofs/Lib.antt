pub mod Limits
pub mod Numbered
pub mod Listing
pub mod Marking
