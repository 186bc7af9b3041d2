use Rattle.std.proofs.Common.{length}
use Rattle.method_places.specs.bodies.Alike.{AreClassGrouped, StillKnow}
use Rattle.method_places.proofs.alike.add_class.Given as goal

abbrev pub invariant-loop-at : goal.invariant-loop-at
invariant-loop-at l = record {
  before : StillKnow l.set l.fn.groups.items l.groups.items;
  added : AreClassGrouped l.set l.keys l.groups.items l.number (length l.class.fields) l.at;
}
