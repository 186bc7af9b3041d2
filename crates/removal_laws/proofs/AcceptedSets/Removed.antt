-- What is said of what is left of a set (`removal_accepted`, `removal_builds`), passed on to the crates above.
pub use Rattle.removal_laws.specs.RemovalBuilds.FilesLeft.{AreBuilt}
pub use Rattle.removal_laws.specs.RemovalAccepted.Laws.{left_and_filtered}
pub use Rattle.removal_laws.proofs.RemovalAccepted.Whole.{taken_left, typed_left}
