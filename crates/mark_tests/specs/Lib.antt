pub mod OneItem
