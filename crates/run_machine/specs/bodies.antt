pub mod Piles
pub mod Firsts
pub mod Constants
pub mod Asked
pub mod Ended
pub mod Going
