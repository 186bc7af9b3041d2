-- Answers of `own_acts_are_one`: what its calls ask for, and what it promises.
use Rattle.const_laws.proofs.Fixed.{one_list_of_acts}
use Rattle.const_laws.proofs.acts.own_acts_are_one.Goals as goal

pub returns : goal.returns
returns c = one_list_of_acts
