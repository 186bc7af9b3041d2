pub mod Keeping
pub mod LinkKinds
pub mod Building
pub mod Typing
