pub mod Fixed
pub mod Names
pub mod MappingOf
pub mod bodies
