pub mod Clauses
pub mod Members
pub mod Names
pub mod Whole
