pub mod Seeds
pub mod NewEntry
pub mod Alike
pub mod Due
pub mod OneDue
pub mod bodies
