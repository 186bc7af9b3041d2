use Rattle.std.proofs.Common.{◌-◌, ◌+◌, length}
use Rattle.const_tables.proofs.Joining.{IsJoining}
use Rattle.const_tables.proofs.facts.joined.Given as goal

abbrev pub invariant-loop-next : goal.invariant-loop-next
invariant-loop-next l =
    IsJoining l.former l.latter l.one l.other l.first l.second l.all.items

abbrev pub decreases-loop-next : goal.decreases-loop-next
decreases-loop-next l = length l.former - l.one + (length l.latter - l.other)
