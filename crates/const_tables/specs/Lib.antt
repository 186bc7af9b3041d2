pub mod Distance
pub mod Stretches
pub mod FirstFacts
pub mod Folding
pub mod Predecessors
