use Rattle.mark_core.specs.bodies.Worklist.{IsSound, Grows}
use Rattle.mark_core.proofs.Walking.{IsWalked}
use Rattle.mark_core.proofs.plain.mark_pairs.Given as goal

abbrev pub invariant-loop-front : goal.invariant-loop-front
invariant-loop-front l = IsSound l.sys l.work × Grows l.fn.work l.work × IsWalked l.sys l.work l.item l.front

abbrev pub decreases-loop-front : goal.decreases-loop-front
decreases-loop-front l = l.front
