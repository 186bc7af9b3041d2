mod Clausal
mod InOrder
mod Mapped
mod OnlyOne
mod Reading
pub mod Sounding
