-- Answers of `what_is_left_does_the_same`: what its calls ask for, and what it promises.
use Rattle.removal_laws.proofs.AcceptedSets.Doing.{left_does_the_same}
use Rattle.removal_laws.proofs.accepted_sets.what_is_left_does_the_same.Goals as goal

pub returns : goal.returns
returns c = left_does_the_same
