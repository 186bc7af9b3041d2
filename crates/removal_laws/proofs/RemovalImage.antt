pub mod Marked
pub mod Links
pub mod Wanted
