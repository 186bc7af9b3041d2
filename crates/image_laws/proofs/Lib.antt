pub mod SetImage
pub mod ViewImage
pub mod ShrunkImage
pub mod TakenSet
pub mod TypedImage
