-- What is said of new names (`own_names`), passed on to the crates above.
pub use Rattle.pair_laws.specs.OwnNames.Laws.{own_mapping}
pub use Rattle.pair_laws.proofs.OwnNames.Named.{keep_form, stay_apart}
pub use Rattle.pair_laws.proofs.OwnNames.Ordered.{left_ascends, left_renamed}
pub use Rattle.pair_laws.proofs.OwnNames.Told.{mapping_tells}
