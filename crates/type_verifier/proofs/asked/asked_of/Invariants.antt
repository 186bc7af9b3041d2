use Rattle.type_verifier.specs.bodies.Asked.{AreAskedBefore}
use Rattle.type_verifier.proofs.asked.asked_of.Given as goal

abbrev pub invariant-loop-number : goal.invariant-loop-number
invariant-loop-number l = AreAskedBefore l.code l.number l.asked.items
