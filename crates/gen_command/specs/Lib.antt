pub mod Due
pub mod OneDue
