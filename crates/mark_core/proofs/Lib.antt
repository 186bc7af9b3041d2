pub mod Sets
pub mod Marking
pub mod Growing
pub mod Linking
pub mod Walking
pub mod Opening
