pub mod Cut
pub mod Frames
pub mod Heads
pub mod OldNames
pub mod Retraced
pub mod bodies
