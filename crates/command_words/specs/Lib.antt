pub mod CommandLine
pub mod Entries
pub mod Words
pub mod Batch
pub mod bodies
