-- Definitions that the proofs of bodies alone need.
pub mod Seen
pub mod Lines
pub mod Lookups
pub mod Entries
pub mod Signatures
pub mod Fields
pub mod Methods
pub mod Instructions
pub mod PassedOver
pub mod ClassAttributes
pub mod CodeAttributes
pub mod Codes
pub mod Classes
