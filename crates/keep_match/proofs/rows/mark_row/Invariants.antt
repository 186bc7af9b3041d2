use Rattle.std.proofs.Common.{◌≡◌, length}
use Rattle.keep_match.specs.bodies.Marks.{members_kept, or_each}
use Rattle.keep_match.proofs.RowLaw.{so_far}
use Rattle.keep_match.proofs.rows.mark_row.Given as goal

abbrev pub invariant-loop-member : goal.invariant-loop-member
invariant-loop-member l =
    (l.row.items ≡ or_each l.fn.row.items (so_far l.member (members_kept l.specs l.class)))
    × (length l.row.items ≡ length l.fn.row.items)
