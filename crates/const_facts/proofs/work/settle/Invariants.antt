use Rattle.const_facts.specs.Worklist.{IsOpen, left}
use Rattle.const_facts.proofs.work.settle.Given as goal

abbrev pub invariant-loop-at : goal.invariant-loop-at
invariant-loop-at l = IsOpen l.code l.slot l.work

abbrev pub decreases-loop-at : goal.decreases-loop-at
decreases-loop-at l = left l.work
