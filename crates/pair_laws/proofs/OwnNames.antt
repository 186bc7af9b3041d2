pub mod Commuting
pub mod Told
pub mod Ordered
pub mod Apart
pub mod Named
