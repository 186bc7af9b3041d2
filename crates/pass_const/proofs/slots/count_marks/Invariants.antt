use Rattle.std.proofs.Common.{◌≡◌, ◌≤◌, ◌+◌, drop}
use Rattle.pass_const.specs.Taking.{count_marks}
use Rattle.pass_const.proofs.slots.count_marks.Given as goal

abbrev pub invariant-loop-mark : goal.invariant-loop-mark
invariant-loop-mark l =
    (l.count + count_marks (drop l.mark-index l.marks) ≡ count_marks l.marks)
    × (l.count ≤ l.mark-index)
