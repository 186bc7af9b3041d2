pub mod Reading
pub mod Cutting
pub mod Scanning
pub mod WildLaw
pub mod Filtering
pub mod Pairs
pub mod Arguments
pub mod AboveLaw
pub mod SuperLaw
pub mod RowLaw
pub mod PlaceLaw
pub mod LiteralLaw
pub mod MarkLaw
pub mod NameLaw
mod TableLaw
pub mod AskedLaw
mod FixedLaw
