pub mod Lists
mod Growing
mod TypedAt
pub mod Held
mod Assigning
pub mod Heaps
pub mod Going
pub mod Initialising
mod Unwinding
mod Stepping
mod Taking
mod Using
mod Sorts
mod Words
pub mod Arguments
pub mod Beginning
mod Operands
mod Constructors
mod Slots
mod Leaving
mod Fields
mod Acts
mod Seen
mod Rows
mod Running
mod Calling
mod Arrays
mod ArrayAnswers
pub mod NewArrays
mod ArrayAsking
mod Computing
mod Joining
mod Families
pub mod Runs
