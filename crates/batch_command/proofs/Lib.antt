pub mod Finding
pub mod Each
pub mod Endings
pub mod OfJobs
pub mod Joins
pub mod SameFiles
pub mod Working
