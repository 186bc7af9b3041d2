-- Answers of `found_acts_are_some`: what its calls ask for, and what it promises.
use Rattle.found_laws.proofs.SomeActs.{some_acts}
use Rattle.found_laws.proofs.laws.found_acts_are_some.Goals as goal

pub returns : goal.returns
returns c = some_acts
