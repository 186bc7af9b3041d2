use Rattle.std.proofs.Common.{reverse}
use Rattle.why_kept.specs.bodies.Telling.{AreTold, weight}
use Rattle.why_kept.proofs.explain.steps_to.Given as goal

abbrev pub invariant-tell : goal.invariant-tell
invariant-tell l = AreTold l.sys l.levels l.id l.waiting.keys (reverse l.steps.items)

abbrev pub decreases-tell : goal.decreases-tell
decreases-tell l = weight l.sys.n l.waiting.keys
