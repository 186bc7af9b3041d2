-- What a pair that `check` takes does.
pub use Rattle.pair_laws.proofs.FilesFound.Readable.{readable}
pub use Rattle.pair_laws.proofs.PairSound.Sound.{pairs_do_the_same}
