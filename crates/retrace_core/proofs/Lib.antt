pub mod LastPlace
pub mod LineParts
pub mod Telling
pub mod Links
pub mod EachOnce
