mod There
mod Placing
mod Limiting
pub mod Validity
pub mod AskedThere
pub mod SystemDue
