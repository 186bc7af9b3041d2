pub mod OneDue
pub mod Found
