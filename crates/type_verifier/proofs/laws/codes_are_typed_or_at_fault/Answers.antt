-- Answers of `codes_are_typed_or_at_fault`: what its calls ask for, and what it promises.
use Rattle.type_verifier.proofs.TypedLaw.{never_both, one_fault}
use Rattle.type_verifier.proofs.laws.codes_are_typed_or_at_fault.Goals as goal

pub returns-clause-either : goal.returns-clause-either
returns-clause-either c = never_both

pub returns-clause-one : goal.returns-clause-one
returns-clause-one c = one_fault
