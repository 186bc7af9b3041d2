mod Settling
mod SomeReached
mod SomeEnds
mod SomeFacts
pub mod Listing
mod SomeSlots
pub mod SomeActs
pub mod OneActs
