mod Cases
mod Ordering
pub mod Joining
mod Splitting
pub mod Naming
pub mod FoldTable
pub mod Linking
pub mod FirstActs
