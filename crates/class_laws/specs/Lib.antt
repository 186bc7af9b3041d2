pub mod ReadingLaws
pub mod ClassValues
pub mod SpellingLaws
