-- What is said of sets under new names (`renamed_taken`), passed on to the crates above.
pub use Rattle.pair_laws.specs.RenamedTaken.NewSet.{AreFilesOf, IsNewSet}
pub use Rattle.pair_laws.proofs.RenamedTaken.Orders.{IsReordered, places}
pub use Rattle.pair_laws.proofs.RenamedTaken.Whole.{built_again, taken_again}
