use Rattle.link_check.specs.bodies.Inherited.{AreKnown}
use Rattle.link_check.proofs.overriding.inherited.known_of_all.Given as goal

abbrev pub invariant-loop-number : goal.invariant-loop-number
invariant-loop-number l = AreKnown l.set l.known.items
