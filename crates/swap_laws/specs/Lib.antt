pub mod Swapped
pub mod Laws
