pub mod AllNames
pub mod FieldKeys
