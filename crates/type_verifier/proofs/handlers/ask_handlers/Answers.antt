-- Answers of `ask_handlers`: what its calls ask for, and what it promises.
use Rattle.std.proofs.Common.{sym, subst, ◌∙◌}
use Rattle.std.proofs.lemmas.Bool.{eqb-true}
use Rattle.type_verifier.specs.bodies.Seen.{environment_of}
use Rattle.type_verifier.specs.bodies.Since.{IsSince}
use Rattle.type_verifier.proofs.Handled.{nothing_new}
use Rattle.type_verifier.proofs.handlers.ask_handlers.Goals as goal

pub returns-then-not-is_first_covered : goal.returns-then-not-is_first_covered
returns-then-not-is_first_covered c =
    let changed = c.in-Some.changed in
    sym (nothing_new (environment_of c.args.env.now) c.args.at changed c.args.frame.now
    (subst (λ s. IsSince (environment_of c.args.env.now) c.args.at s c.args.frame.now) c.in-Some.is c.requires.since)
    (eqb-true changed.from changed.to (sym c.is_nothing.ensures ∙ c.if-is_nothing.true))
    (sym (c.requires.places.covered.marked c.args.at c.requires.instruction) ∙ sym c.is_first_covered.ensures
    ∙ c.if-not-is_first_covered.true))
