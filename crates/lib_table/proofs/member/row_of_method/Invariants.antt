use Rattle.std.proofs.Common.{◌≡◌, drop, map, slice_get}
use Rattle.std.specs.List.{filter, enumerate_from}
use Rattle.lib_table.specs.bodies.Rows.{told_member}
use Rattle.lib_table.proofs.member.row_of_method.Given as goal

abbrev pub invariant-loop-member : goal.invariant-loop-member
invariant-loop-member l =
    (l.at ≡ l.member-index)
    × (slice_get (filter (λ p. p.1.is_method) (enumerate_from 0 (map told_member l.members))) l.k
    ≡ slice_get (filter (λ p. p.1.is_method) (enumerate_from l.member-index
    (map told_member (drop l.member-index l.members)))) l.before)
