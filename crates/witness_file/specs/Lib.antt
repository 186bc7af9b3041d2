pub mod ActWords
pub mod KindNames
pub mod LineReading
pub mod WitnessLines
pub mod WitnessReading
pub mod Witnesses
pub mod bodies
