use Rattle.std.proofs.Common.{◌≡◌, ◌+◌, length}
use Rattle.type_verifier.specs.bodies.Steps.{height}
use Rattle.type_verifier.proofs.hierarchy.height_of.Given as goal

abbrev pub invariant-loop : goal.invariant-loop
invariant-loop l = l.height + length l.iterator' ≡ height l.set l.fn.class
