pub mod Bytes
pub mod LineLaw
pub mod Candidates
pub mod OwnCodes
pub mod Traced
pub mod Coded
pub mod Framed
