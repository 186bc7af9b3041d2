pub mod ImageNames
pub mod ImageView
