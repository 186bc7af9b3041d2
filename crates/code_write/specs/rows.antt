-- Computed rows.
pub mod Examples
