-- Answers of `sets_by_rules_are_swapped`: what its calls ask for, and what it promises.
use Rattle.optimised_laws.proofs.Swapped.{swapped_by_rules}
use Rattle.optimised_laws.proofs.Typed.{typed_by_rules}
use Rattle.optimised_laws.proofs.laws.sets_by_rules_are_swapped.Goals as goal

pub returns-clause-swapped : goal.returns-clause-swapped
returns-clause-swapped c = swapped_by_rules c.found_acts_are_legal.ensures

pub returns-clause-typed : goal.returns-clause-typed
returns-clause-typed c = typed_by_rules
