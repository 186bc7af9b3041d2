pub mod KindNames
pub mod LineReading
pub mod MapLines
pub mod MapReading
pub mod Mappings
pub mod Limited
pub mod bodies
