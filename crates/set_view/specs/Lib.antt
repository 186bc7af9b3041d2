pub mod ViewOf
pub mod Examples
