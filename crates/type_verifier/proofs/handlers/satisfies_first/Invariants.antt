use Rattle.std.proofs.Common.{◌-◌, length}
use Rattle.type_verifier.specs.bodies.Chained.{IsSatisfiedBefore, count_before}
use Rattle.type_verifier.specs.bodies.Seen.{environment_of}
use Rattle.type_verifier.proofs.handlers.satisfies_first.Given as goal

abbrev pub invariant-loop-next : goal.invariant-loop-next
invariant-loop-next l = IsSatisfiedBefore (environment_of l.env) l.at l.frame l.next

abbrev pub decreases-loop-next : goal.decreases-loop-next
decreases-loop-next l = length l.env.code.now.handlers - count_before l.env.code.now.handlers l.next
