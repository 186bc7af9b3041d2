pub mod Flags
pub mod LibraryRows
pub mod Rows
pub mod Proper
pub mod Names
pub mod Members
pub mod Overriding
