pub mod NewSet
pub mod Laws
