mod FaultPlace
pub mod First
mod Frames
mod Inheriting
pub mod Least
mod Likes
mod EndsMeet
pub mod Methods
mod Once
mod Walks
pub mod Alike
pub mod Choosing
pub mod ComputedProfile
pub mod Interfaces
pub mod Linking
pub mod OverridingLaws
pub mod Passing
pub mod Taken
pub mod Upwards
pub mod Meaning
pub mod Alone
