-- Answers of `filtered_removal_keeps_accepted`: what its calls ask for, and what it promises.
use Rattle.removal_laws.proofs.RemovalAccepted.Whole.{taken_left, typed_left}
use Rattle.removal_laws.proofs.removal_accepted.filtered_removal_keeps_accepted.Goals as goal

pub returns : goal.returns
returns c = record { taken = taken_left; typed = typed_left }
