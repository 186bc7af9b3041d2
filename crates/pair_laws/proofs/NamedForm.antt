pub mod Apart
pub mod Fronts
pub mod Picked
pub mod Kept
pub mod Same
pub mod Earlier
pub mod Written
