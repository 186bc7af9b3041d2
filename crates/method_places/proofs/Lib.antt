mod Grouping
mod Having
pub mod InstanceRows
pub mod Noting
