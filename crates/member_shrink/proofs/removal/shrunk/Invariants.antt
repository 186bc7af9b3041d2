use Rattle.std.proofs.Common.{◌≡◌, ◌+◌, ◌++◌, length}
use Rattle.std.specs.Vec.Iter.{into_iter_items}
use Rattle.class_pool.specs.Count.{item_count}
use Rattle.member_shrink.specs.Shrunk.{shrunk}
use Rattle.member_shrink.proofs.Left.{left_from}
use Rattle.member_shrink.proofs.removal.shrunk.Given as goal

abbrev pub invariant-loop-class : goal.invariant-loop-class
invariant-loop-class l = record {
  kept : l.kept ++ left_from l.marks l.item (into_iter_items l.class-iterator) ≡ shrunk l.fn.classes l.marks;
  left : l.item + item_count (into_iter_items l.class-iterator) ≡ length l.marks;
}
