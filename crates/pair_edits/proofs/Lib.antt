pub mod Finding
pub mod Keyed
pub mod StepByStep
pub mod Naming
pub mod Straying
