use Rattle.std.proofs.Common.{◌≡◌, ◌<◌, ◌≤◌, ℕ, []}
use Rattle.std.specs.Prelude.{slice_index_or}
use Rattle.std.specs.List.{All}
use Rattle.mark_core.specs.Ranks.{rank_of}
use Rattle.mark_core.proofs.ranks.none_rises.Given as goal

abbrev pub invariant-loop-list : goal.invariant-loop-list
invariant-loop-list l =
    (l.number ≡ l.list-index)
    × ((n : ℕ) → n < l.list-index → All (λ m. rank_of l.ranks m ≤ rank_of l.ranks n) (slice_index_or l.needs n []))
