mod Left
pub mod Picked
