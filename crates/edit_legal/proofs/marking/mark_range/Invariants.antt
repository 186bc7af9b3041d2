use Rattle.std.proofs.Common.{◌≡◌, ◌+◌, ◌-◌}
use Rattle.edit_legal.specs.Dropped.{taking}
use Rattle.edit_legal.proofs.marking.mark_range.Given as goal

abbrev pub invariant-loop : goal.invariant-loop
invariant-loop l =
    (taking l.at (l.count - l.counter) l.marks.items ≡ taking l.from l.count l.fn.marks.items)
    × (l.at ≡ l.from + l.counter)
