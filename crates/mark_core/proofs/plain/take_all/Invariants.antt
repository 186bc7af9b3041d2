use Rattle.mark_core.specs.bodies.Worklist.{IsOpen, left}
use Rattle.mark_core.proofs.plain.take_all.Given as goal

abbrev pub invariant-loop-item : goal.invariant-loop-item
invariant-loop-item l = IsOpen l.sys l.work

abbrev pub decreases-loop-item : goal.decreases-loop-item
decreases-loop-item l = left l.work
