-- Answers of `verify_set`: what its calls ask for, and what it promises.
use Rattle.std.proofs.Common.{◌∙◌, sym}
use Rattle.type_verifier.proofs.SetLaw.{fault_place, set_apart, set_fault, set_typed}
use Rattle.type_verifier.proofs.verify.verify_set.Goals as goal

pub returns-in-Some-clause-judged : goal.returns-in-Some-clause-judged
returns-in-Some-clause-judged c = set_fault c.args.set.now c.in-Some.fault (sym c.in_ok-fault.ensures ∙ c.in-Some.is)

pub returns-in-Some-clause-typed : goal.returns-in-Some-clause-typed
returns-in-Some-clause-typed c = λ typed. absurd
    (set_apart c.args.set.now c.in-Some.fault typed
    (set_fault c.args.set.now c.in-Some.fault (sym c.in_ok-fault.ensures ∙ c.in-Some.is)))

pub returns-in-Some-clause-place : goal.returns-in-Some-clause-place
returns-in-Some-clause-place c = fault_place c.args.set.now c.in-Some.fault
    (set_fault c.args.set.now c.in-Some.fault (sym c.in_ok-fault.ensures ∙ c.in-Some.is))

pub returns-in-None-clause-judged : goal.returns-in-None-clause-judged
returns-in-None-clause-judged c = set_typed c.args.set.now (sym c.in_ok-fault.ensures ∙ c.in-None.is)
