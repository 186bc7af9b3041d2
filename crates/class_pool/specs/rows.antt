-- Computed rows.
pub mod LinkRows
