pub mod Cut
pub mod Faults
pub mod Lines
pub mod Members
pub mod Numbers
pub mod bodies
