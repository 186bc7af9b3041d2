use Rattle.std.proofs.Common.{◌≡◌, map, take}
use Rattle.method_places.specs.bodies.Alike.{class_marks}
use Rattle.method_places.proofs.alike.marks_of.Given as goal

abbrev pub invariant-loop-number : goal.invariant-loop-number
invariant-loop-number l = l.marks ≡ map class_marks (take l.number l.set)
