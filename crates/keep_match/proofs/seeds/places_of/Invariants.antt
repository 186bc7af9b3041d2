use Rattle.std.proofs.Common.{◌≡◌, length, take}
use Rattle.std.specs.List.{flat_map}
use Rattle.keep_match.specs.Seeds.{places_of_true}
use Rattle.keep_match.proofs.seeds.places_of.Given as goal

abbrev pub invariant-loop-row : goal.invariant-loop-row
invariant-loop-row l =
    (l.items ≡ places_of_true 0 (flat_map (λ r. r) (take l.row-index l.rows)))
    × (l.next ≡ length (flat_map (λ r. r) (take l.row-index l.rows)))
