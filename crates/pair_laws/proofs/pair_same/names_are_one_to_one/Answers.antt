-- Answers of `names_are_one_to_one`: what its calls ask for, and what it promises.
use Rattle.pair_laws.proofs.PairSame.OneToOne.{one_to_one}
use Rattle.pair_laws.proofs.pair_same.names_are_one_to_one.Goals as goal

pub returns : goal.returns
returns c = one_to_one
