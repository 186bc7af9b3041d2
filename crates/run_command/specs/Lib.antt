pub mod Arguments
pub mod Due
pub mod Entries
pub mod OneDue
pub mod Shown
pub mod bodies
