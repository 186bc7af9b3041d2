pub mod Aimed
pub mod Loads
pub mod Marks
pub mod Next
pub mod Places
pub mod Spread
pub mod Swept
pub mod Unskipped
