use Rattle.std.proofs.Common.{take}
use Rattle.std.specs.List.{enumerate_from, flat_map}
use Rattle.require_sys.specs.Requires.{class_pairs}
use Rattle.override_pairs.specs.bodies.Above.{IsAbove}
use Rattle.override_pairs.specs.bodies.Counting.{HasPairs}
use Rattle.override_pairs.proofs.pairs.pairs_of.Given as goal

abbrev pub invariant-loop-number : goal.invariant-loop-number
invariant-loop-number l = record {
  pairs : HasPairs (flat_map (class_pairs l.numbered.set.now)
      (enumerate_from 0 (take l.number l.numbered.set.now))) l.pairs;
  above : IsAbove l.numbered.set.now l.number l.above;
}
