pub mod Canonical
pub mod LineLaw
pub mod MapLaw
pub mod NamesTold
pub mod Told
mod Limits
