pub mod CutFaults
pub mod DropFaults
mod Faults
mod Following
pub mod JumpFaults
mod Lengths
mod Noting
mod Ranges
mod LastIndex
mod FoldsLast
mod FoldsRight
mod FactsRight
pub mod ConstFaults
