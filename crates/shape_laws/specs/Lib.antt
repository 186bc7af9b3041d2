pub mod KeepsMembers
pub mod Bare
pub mod Laws
