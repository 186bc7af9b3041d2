-- Answers of `far_twice`: what its calls ask for, and what it promises.
use Rattle.std.proofs.Common.{sym, ◌∙◌}
use Rattle.type_verifier.proofs.Climbing.{far_then, known_at}
use Rattle.type_verifier.proofs.hierarchy.far_twice.Goals as goal

pub returns-then-saturating_sub : goal.returns-then-saturating_sub
returns-then-saturating_sub c =
    let one = known_at c.args.set.now c.args.steps.now c.args.step.far c.in_ok-one.one c.requires.steps
    (sym c.known_at.ensures ∙ c.in_ok-one.was) in
    far_then c.args.set.now c.args.above c.args.step.far c.in_ok-one.one.far c.requires.step.far one.far
