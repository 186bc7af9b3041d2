-- Answers of `pairs_stay_with_other_codes`: what its calls ask for, and what it promises.
use Rattle.pair_laws.proofs.SwappedPairs.Whole.{swap_keeps_pairs}
use Rattle.pair_laws.proofs.swapped_pairs.pairs_stay_with_other_codes.Goals as goal

pub returns : goal.returns
returns c = swap_keeps_pairs
