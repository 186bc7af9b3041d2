use Rattle.std.proofs.Common.{◌≡◌, ◌+◌, ◌++◌, drop}
use Rattle.keep_match.specs.Seeds.{places_of_true}
use Rattle.keep_match.proofs.seeds.push_places.Given as goal

abbrev pub invariant-loop-place : goal.invariant-loop-place
invariant-loop-place l =
    l.items ++ places_of_true (l.next + l.place) (drop l.place l.row) ≡ l.fn.items ++ places_of_true l.next l.row
