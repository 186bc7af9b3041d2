pub mod Naturals
pub mod Tables
