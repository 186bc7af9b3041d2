mod Changes
pub mod ByNumber
