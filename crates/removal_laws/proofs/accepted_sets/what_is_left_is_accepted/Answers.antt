-- Answers of `what_is_left_is_accepted`: what its calls ask for, and what it promises.
use Rattle.removal_laws.proofs.AcceptedSets.Taken.{left_accepted}
use Rattle.removal_laws.proofs.accepted_sets.what_is_left_is_accepted.Goals as goal

pub returns : goal.returns
returns c = left_accepted
