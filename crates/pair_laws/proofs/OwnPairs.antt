pub mod Left
pub mod Written
pub mod Own
pub mod Found
pub mod WordTexts
