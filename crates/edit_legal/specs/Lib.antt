pub mod Cuttable
pub mod Dropped
pub mod Fault
pub mod Movable
pub mod Decidable
pub mod ConstTables
