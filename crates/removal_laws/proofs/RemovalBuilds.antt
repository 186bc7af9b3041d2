pub mod LeftLists
pub mod Rounds
pub mod RanksLeft
pub mod Again
pub mod Formed
pub mod Taken
