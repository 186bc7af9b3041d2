use Rattle.std.proofs.Common.{◌<◌, ℕ}
use Rattle.keep_match.specs.bodies.Marks.{IsDone, IsMarking}
use Rattle.keep_match.proofs.seeds.mark_each.Given as goal

abbrev pub invariant-loop-number : goal.invariant-loop-number
invariant-loop-number l =
    IsMarking l.set l.keep l.fn.rows.items l.rows.items
    × ((n : ℕ) → n < l.number → IsDone l.set l.keep l.fn.rows.items l.rows.items n)
