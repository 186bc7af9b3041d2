use Rattle.std.proofs.Common.{◌≡◌, ◌+◌, ◌++◌, length}
use Rattle.std.specs.Vec.Iter.{into_iter_items}
use Rattle.member_shrink.specs.Shrunk.{chosen}
use Rattle.member_shrink.proofs.removal.chosen.Given as goal

abbrev pub invariant-loop-element : goal.invariant-loop-element
invariant-loop-element g l = record {
  kept : l.kept ++ chosen l.marks l.item (into_iter_items l.element-iterator) ≡ chosen l.marks l.fn.first l.fn.elements;
  left : l.item + length (into_iter_items l.element-iterator) ≡ l.fn.first + length l.fn.elements;
}
