use Rattle.method_places.specs.bodies.Alike.{AreGrouped}
use Rattle.method_places.proofs.alike.groups_of.Given as goal

abbrev pub invariant-loop-number : goal.invariant-loop-number
invariant-loop-number l = AreGrouped l.set l.keys l.groups.items l.number
