-- Answers of `found_acts_are_legal`: what its calls ask for, and what it promises.
use Rattle.edit_laws.proofs.FoundLegal.{found_legal}
use Rattle.edit_laws.proofs.found.found_acts_are_legal.Goals as goal

pub returns : goal.returns
returns c = found_legal
