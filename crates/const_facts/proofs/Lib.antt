pub mod Ordering
pub mod Lowering
pub mod Taking
pub mod Whole
pub mod Passing
pub mod Settling
pub mod Ending
