use Rattle.std.proofs.Common.{◌≡◌, take}
use Rattle.std.specs.List.{enumerate_from, flat_map}
use Rattle.require_sys.specs.Requires.{class_needs}
use Rattle.item_needs.specs.bodies.Counting.{HasNeeds}
use Rattle.item_numbers.specs.bodies.Wanting.{wanting_nothing}
use Rattle.item_needs.proofs.needs.needs_of.Given as goal

abbrev pub invariant-loop-number : goal.invariant-loop-number
invariant-loop-number l = record {
  has : HasNeeds (flat_map (class_needs l.numbered.set.now l.kept) (enumerate_from 0
      (take l.number l.numbered.set.now))) l.needs;
  empty : l.wants ≡ wanting_nothing l.numbered.set.now;
}
