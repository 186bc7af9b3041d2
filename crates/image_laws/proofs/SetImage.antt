pub mod MappedLists
pub mod Walks
pub mod Finding
pub mod Selecting
pub mod Access
