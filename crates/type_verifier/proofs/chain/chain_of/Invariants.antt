use Rattle.std.proofs.Common.{◌≤◌, length}
use Rattle.type_verifier.specs.bodies.Chained.{IsChainFrom}
use Rattle.type_verifier.proofs.chain.chain_of.Given as goal

abbrev pub invariant-loop-number : goal.invariant-loop-number
invariant-loop-number l =
    (l.number ≤ length l.handlers) × IsChainFrom l.handlers l.number l.count l.first.items l.next.items

abbrev pub decreases-loop-number : goal.decreases-loop-number
decreases-loop-number l = l.number
