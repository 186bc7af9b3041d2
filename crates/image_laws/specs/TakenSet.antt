pub mod TakenSet
pub mod Laws
