-- Answers of `check_in`: what its calls ask for, and what it promises.
use Rattle.std.proofs.Common.{Result, subst}
use Rattle.jv_base.specs.Outcome.{IsDue}
use Rattle.type_verifier.specs.declared.fault.TypeFault.{TypeFault}
use Rattle.type_verifier.proofs.WithCode.{code_judged, typed_code}
use Rattle.type_verifier.proofs.checker.check_in.Goals as goal

pub returns-clause-judged : goal.returns-clause-judged
returns-clause-judged c =
    code_judged c.args.set.now c.args.class c.args.method c.class-of.result.now c.index.result.now c.args.code.now
    c.check_by_steps.result c.class-of.ensures.is c.index.ensures c.check_by_steps.ensures

pub returns-clause-typed : goal.returns-clause-typed
returns-clause-typed c = λ t.
    subst (λ (d : Result (Unit {0}) TypeFault). IsDue c.check_by_steps.result d)
    (typed_code c.args.set.now c.args.class c.args.method c.class-of.result.now c.index.result.now c.args.code.now
    c.class-of.ensures.is c.index.ensures t)
    c.check_by_steps.ensures
