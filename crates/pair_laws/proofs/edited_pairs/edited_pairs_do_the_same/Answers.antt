-- Answers of `edited_pairs_do_the_same`: what its calls ask for, and what it promises.
use Rattle.pair_laws.proofs.EditedPairs.Whole.{edited_pairs}
use Rattle.pair_laws.proofs.edited_pairs.edited_pairs_do_the_same.Goals as goal

pub returns : goal.returns
returns c = edited_pairs
