pub mod Ascending
pub mod SortedNeeds
pub mod Gathering
pub mod Meeting
pub mod AloneLaw
pub mod SupersLaw
mod TopsLaw
pub mod Looking
pub mod Membering
