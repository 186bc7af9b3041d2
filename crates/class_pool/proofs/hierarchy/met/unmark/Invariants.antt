use Rattle.std.proofs.Common.{◌≡◌, length, take}
use Rattle.class_pool.specs.bodies.Marked.{IsLeft}
use Rattle.class_pool.proofs.hierarchy.met.unmark.Given as goal

abbrev pub invariant-loop-id : goal.invariant-loop-id
invariant-loop-id l = record {
  lengths : length l.marks.items ≡ length l.fn.marks.items;
  left : IsLeft l.fn.marks.items (take l.id-index l.ids) l.marks.items;
}
