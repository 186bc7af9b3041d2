pub mod Clauses
pub mod PairOk
pub mod OneAnswer
pub mod bodies
