-- Answers of `verify_method`: what its calls ask for, and what it promises.
use Rattle.std.proofs.Common.{Result, subst}
use Rattle.jv_base.specs.Outcome.{IsDue}
use Rattle.type_verifier.specs.declared.fault.TypeFault.{TypeFault}
use Rattle.type_verifier.proofs.SetLaw.{method_judged, typed_method}
use Rattle.type_verifier.proofs.verify.verify_method.Goals as goal

pub returns-clause-judged : goal.returns-clause-judged
returns-clause-judged c =
    method_judged c.args.set.now c.args.class c.args.method c.class-of.result.now c.index.result.now
    c.check_own_code.result c.class-of.ensures.is c.index.ensures c.check_own_code.ensures

pub returns-clause-typed : goal.returns-clause-typed
returns-clause-typed c = λ t.
    subst (λ (d : Result (Unit {0}) TypeFault). IsDue c.check_own_code.result d)
    (typed_method c.args.set.now c.args.class c.args.method c.class-of.result.now c.index.result.now
    c.class-of.ensures.is c.index.ensures t)
    c.check_own_code.ensures
