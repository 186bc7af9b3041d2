use Rattle.std.proofs.Common.{◌≡◌, drop, map}
use Rattle.std.specs.List.{find, enumerate_from}
use Rattle.lib_table.specs.Lookups.{is_member}
use Rattle.lib_table.specs.bodies.Rows.{told_member}
use Rattle.lib_table.proofs.member.row_of_member.Given as goal

abbrev pub invariant-loop-member : goal.invariant-loop-member
invariant-loop-member l =
    (l.at ≡ l.member-index)
    × (find (λ p. is_member l.name l.descriptor p.1) (enumerate_from 0 (map told_member l.members))
    ≡ find (λ p. is_member l.name l.descriptor p.1)
    (enumerate_from l.member-index (map told_member (drop l.member-index l.members))))
