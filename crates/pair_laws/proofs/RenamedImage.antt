pub mod Rows
pub mod LibraryTypes
pub mod Descriptors
pub mod Declared
pub mod MemberNames
pub mod Join
