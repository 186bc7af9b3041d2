pub mod ItemTexts
pub mod bodies
