use Rattle.type_verifier.specs.bodies.Noting.{StillNoted}
use Rattle.type_verifier.proofs.fitting.make_room.Given as goal

abbrev pub invariant-loop : goal.invariant-loop
invariant-loop l = StillNoted l.fn.noted.items l.noted.items
