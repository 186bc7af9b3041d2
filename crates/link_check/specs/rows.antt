-- Computed rows.
pub mod ProfileRows
