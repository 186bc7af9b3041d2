pub mod Links
pub mod Profile
pub mod Taken
pub mod KindNames
pub mod bodies
pub mod rows
