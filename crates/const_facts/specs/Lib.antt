pub mod Marked
pub mod Order
pub mod Worklist
