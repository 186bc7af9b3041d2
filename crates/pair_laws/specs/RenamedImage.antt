pub mod Renaming
pub mod Naming
pub mod Laws
