mod Numbers
mod Rows
mod Loops
mod Behind
mod BackRows
mod BackForms
mod BackFrames
pub mod BackGood
mod Unfolding
