use Rattle.std.proofs.Common.{◌++◌, List, take}
use Rattle.method_places.specs.bodies.Nearest.{AreNoted, AreUpTo}
use Rattle.method_places.specs.declared.methods.InstanceMethod.{InstanceMethod}
use Rattle.method_places.proofs.nearest.note_rows.Given as goal

abbrev pub invariant-loop-row : goal.invariant-loop-row
invariant-loop-row l = record {
  noted : (before : List InstanceMethod) → AreNoted l.stamp before l.fn.notes.items
      → AreNoted l.stamp (before ++ take l.row-index l.rows) l.notes.items;
  stamps : AreUpTo l.stamp l.notes.items;
}
