-- Answers of `optimised_sets_are_swapped`: what its calls ask for, and what it promises.
use Rattle.optimised_laws.proofs.Swapped.{optimised_swapped}
use Rattle.optimised_laws.proofs.Typed.{optimised_typed}
use Rattle.optimised_laws.proofs.laws.optimised_sets_are_swapped.Goals as goal

pub returns-clause-swapped : goal.returns-clause-swapped
returns-clause-swapped c = optimised_swapped c.found_acts_are_legal.ensures

pub returns-clause-typed : goal.returns-clause-typed
returns-clause-typed c = optimised_typed
