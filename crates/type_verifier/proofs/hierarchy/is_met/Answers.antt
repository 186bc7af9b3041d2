-- Answers of `is_met`: what its calls ask for, and what it promises.
use Rattle.std.proofs.Common.{sym, ◌∙◌, arith}
use Rattle.type_verifier.proofs.Climbing.{known_at, met_here}
use Rattle.type_verifier.proofs.hierarchy.is_met.Goals as goal

pub returns-in-Some : goal.returns-in-Some
returns-in-Some c =
    let known = known_at c.args.set.now c.args.steps.now c.args.from c.in-Some.step c.requires.steps
    (sym c.known_at.ensures ∙ c.in-Some.is) in
    let high = known.height in
    met_here c.args.set.now c.has_ranks.ensures (omega (arith, c.len-count.ensures)) c.args.from c.args.to
    c.requires.from
    (omega (arith, high, c.if-step-floor.true, c.requires.floor))
