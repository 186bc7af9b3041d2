-- Answers of `filtering_keeps_accepted`: what its calls ask for, and what it promises.
use Rattle.removal_laws.proofs.FilteredSet.Building.{taken_set}
use Rattle.removal_laws.proofs.FilteredSet.Typing.{all_typed}
use Rattle.removal_laws.proofs.filtered_set.filtering_keeps_accepted.Goals as goal

pub returns : goal.returns
returns c = record { taken = taken_set; typed = all_typed }
