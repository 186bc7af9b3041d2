-- Answers of `CodeChecker::check`: what its calls ask for, and what it promises.
use Rattle.std.proofs.Common.{List, Ok, subst}
use Rattle.jv_base.specs.Outcome.{IsDue}
use Rattle.class_model.specs.declared.class.Class.{Class}
use Rattle.type_verifier.specs.Verified.{IsTypedAt}
use Rattle.type_verifier.specs.WithCode.{set_with_code}
use Rattle.type_verifier.proofs.checker.CodeChecker.check.Goals as goal

pub returns-clause-typed : goal.returns-clause-typed
returns-clause-typed c =
    subst (λ (cs : List Class). IsTypedAt (set_with_code cs c.args.class c.args.method c.args.code.now)
    c.args.class c.args.method → IsDue c.check_in.result (Ok (tt {0})))
    c.self.view_is c.check_in.ensures.typed
