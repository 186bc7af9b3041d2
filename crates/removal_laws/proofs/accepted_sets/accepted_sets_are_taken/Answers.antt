-- Answers of `accepted_sets_are_taken`: what its calls ask for, and what it promises.
use Rattle.removal_laws.proofs.AcceptedSets.Taken.{are_taken}
use Rattle.removal_laws.proofs.accepted_sets.accepted_sets_are_taken.Goals as goal

pub returns : goal.returns
returns c = are_taken
