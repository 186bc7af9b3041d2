pub mod Acted
pub mod Holds
pub mod NamesNoMore
pub mod Replaced
pub mod Rows
