-- Computed rows.
pub mod Rows
