mod Acting
mod FoundConst
mod FoundJumps
pub mod FoundLegal
mod FoundReach
mod FoundSlots
pub mod Named
pub mod NamingLess
mod Replacing
