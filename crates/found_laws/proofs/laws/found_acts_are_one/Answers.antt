-- Answers of `found_acts_are_one`: what its calls ask for, and what it promises.
use Rattle.found_laws.proofs.OneActs.{one_acts}
use Rattle.found_laws.proofs.laws.found_acts_are_one.Goals as goal

pub returns : goal.returns
returns c = one_acts
