pub mod Pairs
pub mod Entries
pub mod Laws
pub mod OneToOne
