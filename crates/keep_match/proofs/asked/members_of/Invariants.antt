use Rattle.std.proofs.Common.{◌≡◌, drop, map, take}
use Rattle.keep_match.specs.Seeds.{places_of_true}
use Rattle.keep_match.proofs.asked.members_of.Given as goal

abbrev pub invariant-loop-row : goal.invariant-loop-row
invariant-loop-row l = l.members ≡ map (λ row. places_of_true 0 (drop 1 row)) (take l.row-index l.rows)
