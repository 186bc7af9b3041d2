-- Answers of `sets_are_typed_or_at_fault`: what its calls ask for, and what it promises.
use Rattle.type_verifier.proofs.SetLaw.{one_set_fault, set_apart}
use Rattle.type_verifier.proofs.laws.sets_are_typed_or_at_fault.Goals as goal

pub returns-clause-either : goal.returns-clause-either
returns-clause-either c = set_apart

pub returns-clause-one : goal.returns-clause-one
returns-clause-one c = one_set_fault
