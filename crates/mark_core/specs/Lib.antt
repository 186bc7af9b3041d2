pub mod Valid
pub mod Marks
pub mod Ranks
pub mod bodies
