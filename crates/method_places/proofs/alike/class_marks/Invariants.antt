use Rattle.std.proofs.Common.{◌≡◌, map, take}
use Rattle.method_places.specs.bodies.Alike.{mark_in}
use Rattle.method_places.proofs.alike.class_marks.Given as goal

abbrev pub invariant-loop-method : goal.invariant-loop-method
invariant-loop-method l = l.marks ≡ map mark_in (take l.method-index l.class.methods)
