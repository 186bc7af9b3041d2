use Rattle.std.proofs.Common.{◌≡◌, ◌≤◌, take}
use Rattle.class_model.specs.bodies.TypeLists.{types_in}
use Rattle.class_model.proofs.type_lists.TypeLists.beginning.Given as goal

abbrev pub invariant-loop-beginning : goal.invariant-loop-beginning
invariant-loop-beginning l = record {
  long : l.len ≤ l.beginning.len;
  begins : take l.len (types_in l.self l.beginning) ≡ take l.len (types_in l.self l.fn.list);
}

abbrev pub decreases-loop-beginning : goal.decreases-loop-beginning
decreases-loop-beginning l = l.beginning.len
