-- Answers of `pairs_never_differ`: what its calls ask for, and what it promises.
use Rattle.run_laws.proofs.Pairs.{checked_right, pairs_right}
use Rattle.run_laws.proofs.laws.pairs_never_differ.Goals as goal

pub returns : goal.returns
returns c = record { told = pairs_right; checked = checked_right }
