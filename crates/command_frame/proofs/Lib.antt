pub mod Steps
pub mod OneStep
pub mod Endings
pub mod LeftFiles
