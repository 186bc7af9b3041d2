pub mod Telling
pub mod Walked
pub mod Same
