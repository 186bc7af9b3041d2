mod Puts
pub mod Totals
