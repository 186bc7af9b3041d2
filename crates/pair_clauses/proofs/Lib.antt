mod Bodies
pub mod OneFinding
pub mod OnePlace
pub mod Searching
pub mod SeenLaw
mod Fixing
mod Lining
mod Needed
mod Ranged
mod Standing
pub mod Unlike
pub mod Zipped
