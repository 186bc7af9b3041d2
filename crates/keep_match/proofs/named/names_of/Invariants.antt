use Rattle.keep_match.specs.bodies.Marks.{AreNames}
use Rattle.keep_match.proofs.named.names_of.Given as goal

abbrev pub invariant-loop-number : goal.invariant-loop-number
invariant-loop-number l = AreNames l.set l.number l.names
