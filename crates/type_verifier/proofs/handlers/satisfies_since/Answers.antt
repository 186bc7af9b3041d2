-- Answers of `satisfies_since`: what its calls ask for, and what it promises.
use Rattle.std.proofs.Common.{◌≡◌, Bool, subst}
use Rattle.std.specs.Prelude.{IfOk}
use Rattle.type_verifier.specs.bodies.Seen.{environment_of}
use Rattle.type_verifier.proofs.Asking.{first_fails, first_holds}
use Rattle.type_verifier.proofs.handlers.satisfies_since.Goals as goal

pub returns-then-not-branch : goal.returns-then-not-branch
returns-then-not-branch c =
    first_fails (environment_of c.args.env.now) c.args.at c.args.frame.now c.in_ok-satisfies_first.field-0
    c.in_ok-satisfies_first.ensures c.if-not-branch.true

pub returns : goal.returns
returns c =
    subst (λ (z : Bool). IfOk c.satisfies_behind.result (λ ok. ok ≡ z))
    (first_holds (environment_of c.args.env.now) c.args.at c.args.frame.now c.in_ok-satisfies_first.field-0
    c.in_ok-satisfies_first.ensures c.if-not-branch.false) c.satisfies_behind.ensures
