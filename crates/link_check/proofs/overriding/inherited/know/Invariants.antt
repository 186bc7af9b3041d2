use Rattle.link_check.specs.bodies.Inherited.{AreKnown}
use Rattle.link_check.proofs.overriding.inherited.know.Given as goal

abbrev pub invariant-loop-at : goal.invariant-loop-at
invariant-loop-at l = AreKnown l.set l.known.items
