pub mod Fault
pub mod Meaning
pub mod Decoding
pub mod Targets
pub mod Decoded
pub mod ReadBack
pub mod bodies
