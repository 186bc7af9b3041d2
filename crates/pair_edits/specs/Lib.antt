pub mod Edits
pub mod Entries
pub mod Sound
pub mod bodies
