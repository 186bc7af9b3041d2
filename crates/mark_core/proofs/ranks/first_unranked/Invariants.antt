use Rattle.std.proofs.Common.{◌<◌, ℕ, []}
use Rattle.std.specs.Prelude.{slice_index_or}
use Rattle.std.specs.List.{All}
use Rattle.mark_core.specs.Ranks.{rank_of}
use Rattle.mark_core.proofs.ranks.first_unranked.Given as goal

abbrev pub invariant-loop-number : goal.invariant-loop-number
invariant-loop-number l =
    ((n : ℕ) → n < l.number → All (λ m. rank_of l.ranks m < rank_of l.ranks n) (slice_index_or l.sys.needs n []))
