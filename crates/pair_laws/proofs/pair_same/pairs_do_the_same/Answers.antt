-- Answers of `pairs_do_the_same`: what its calls ask for, and what it promises.
use Rattle.pair_laws.proofs.PairSame.PairSame.{pair_same}
use Rattle.pair_laws.proofs.pair_same.pairs_do_the_same.Goals as goal

pub returns : goal.returns
returns c = pair_same
