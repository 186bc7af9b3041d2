mod Lengths
pub mod Ends
mod Counts
pub mod Ready
mod Branches
mod Onward
mod Saying
mod ComputedCodes
