pub mod Added
pub mod Beside
pub mod OnClasses
pub mod Ranges
pub mod Stays
pub mod Undescribed
