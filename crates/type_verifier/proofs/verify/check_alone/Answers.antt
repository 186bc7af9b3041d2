-- Answers of `check_alone`: what its calls ask for, and what it promises.
use Rattle.std.proofs.Common.{List, subst}
use Rattle.jv_base.specs.Outcome.{IsDue}
use Rattle.class_model.specs.declared.class.Class.{Class}
use Rattle.type_verifier.specs.Verified.{environment}
use Rattle.type_verifier.specs.bodies.Walked.{code_checked}
use Rattle.type_verifier.proofs.verify.check_alone.Goals as goal

pub returns : goal.returns
returns c =
    subst (λ (cs : List Class). IsDue c.check_one.result (code_checked
    (environment cs c.args.own c.args.class.now c.args.number c.args.method.now c.args.code.now)))
    c.of-hierarchy.ensures c.check_one.ensures
