pub mod Alike
pub mod Comparing
pub mod Inserted
pub mod Telling
