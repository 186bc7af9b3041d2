pub mod Told
pub mod Codes
pub mod ImageView
pub mod SameNames
