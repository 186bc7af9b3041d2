use Rattle.why_kept.specs.Levels.{AreNeedsNear}
use Rattle.why_kept.proofs.certify.are_needs_near.Given as goal

abbrev pub invariant-loop-item : goal.invariant-loop-item
invariant-loop-item l = AreNeedsNear l.sys l.levels l.item
