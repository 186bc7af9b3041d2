mod Few
pub mod AllOrdered
mod Kept
mod Ordered
mod Members
mod Named
mod Written
pub mod OneShrunk
pub mod Writable
