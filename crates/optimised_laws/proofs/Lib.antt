mod NamingLess
mod SteppedGood
mod Placed
mod NewCodes
pub mod Swapped
pub mod Typed
mod OneStep
pub mod OneOptimised
mod SomeOutcome
pub mod SomeOptimised
