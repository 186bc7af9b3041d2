-- Answers of `are_satisfied`: what its calls ask for, and what it promises.
use Rattle.std.proofs.Common.{◌≡◌, Bool, subst}
use Rattle.std.specs.Prelude.{IfOk}
use Rattle.type_verifier.specs.bodies.Seen.{environment_of}
use Rattle.type_verifier.proofs.Asking.{first_left}
use Rattle.type_verifier.proofs.Telling.{told_behind}
use Rattle.type_verifier.proofs.handlers.are_satisfied.Goals as goal

pub returns-then-is_told : goal.returns-then-is_told
returns-then-is_told c =
    let env = environment_of c.args.env.now in
    subst (λ (z : Bool). IfOk c.satisfies_first.result (λ ok. ok ≡ z))
    (first_left env c.args.at c.args.frame.now
    (told_behind env c.args.at c.args.frame.now c.args.fitting.now c.requires.fitting c.args.since c.requires.since
    (c.is_told.ensures c.if-is_told.true))) c.satisfies_first.ensures
