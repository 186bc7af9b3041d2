pub mod Telling
pub mod Due
pub mod OneDue
pub mod Answers
pub mod bodies
