mod Named
mod Formed
mod Within
mod Written
pub mod Placing
pub mod Joined
