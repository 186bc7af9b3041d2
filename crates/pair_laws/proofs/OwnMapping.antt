pub mod Texts
pub mod Mapped
pub mod Own
