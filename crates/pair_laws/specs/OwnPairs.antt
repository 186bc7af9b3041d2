pub mod Written
pub mod Paired
pub mod Laws
