pub mod Laws
pub mod OneOptimised
