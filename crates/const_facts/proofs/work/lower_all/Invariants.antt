use Rattle.std.proofs.Common.{take}
use Rattle.std.specs.List.{All}
use Rattle.const_facts.specs.Worklist.{Flows, Grows, IsAbove}
use Rattle.const_facts.proofs.work.lower_all.Given as goal

abbrev pub invariant-loop-to : goal.invariant-loop-to
invariant-loop-to l = IsAbove l.code l.slot l.work × Grows l.fn.work l.work
    × All (Flows l.work l.out) (take l.to-index l.places)
