pub mod Loops
mod Begun
mod Placed
mod ToEnd
mod Collecting
pub mod Numbers
pub mod ReadMeant
pub mod ReadToEnd
pub mod ReadWhole
pub mod ReadGrammar
pub mod BackDecoded
