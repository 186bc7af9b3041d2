pub mod ShrunkSet
pub mod Lists
pub mod Order
pub mod Texts
pub mod OneShrunk
pub mod Writable
pub mod bodies
