use Rattle.std.proofs.Common.{◌≡◌, ◌≤◌, take}
use Rattle.class_model.specs.bodies.TypeLists.{types_in}
use Rattle.class_model.proofs.type_lists.TypeLists.shared.Given as goal

abbrev pub invariant-loop-left : goal.invariant-loop-left
invariant-loop-left l = record {
  one : l.left.len ≤ l.fn.one.len;
  other : l.left.len ≤ l.fn.other.len;
  same : l.left.len ≡ l.right.len;
  left : types_in l.self l.left ≡ take l.left.len (types_in l.self l.fn.one);
  right : types_in l.self l.right ≡ take l.right.len (types_in l.self l.fn.other);
}

abbrev pub decreases-loop-left : goal.decreases-loop-left
decreases-loop-left l = l.left.len
