-- Answers of `checked_pairs_do_the_same`: what its calls ask for, and what it promises.
use Rattle.pair_laws.proofs.PairSound.Sound.{checked_same}
use Rattle.pair_laws.proofs.pair_sound.checked_pairs_do_the_same.Goals as goal

pub returns : goal.returns
returns c = checked_same
