mod Deciding
mod Values
mod Searching
mod Members
mod Telling
mod Right
mod Legal
pub mod Clauses
