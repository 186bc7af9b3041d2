use Rattle.std.proofs.Common.{◌≡◌, ℕ, ◌+◌, length}
use Rattle.std.specs.List.{All, Contains}
use Rattle.mark_words.specs.Seats.{view, system_of, IsSeatOf}
use Rattle.mark_workers.specs.Ready.{Hired, IsFree}
use Rattle.mark_workers.proofs.crew.join_seats.Given as goal

abbrev pub invariant-loop-member : goal.invariant-loop-member
invariant-loop-member l =
    IsSeatOf l.table l.seat × IsFree (system_of l.table).n (view l.seat)
    × All (Hired l.table (view l.seat).all) l.crew.items
    × ((view l.seat).seats + length l.crew.items ≡ (view l.seat).all)
    × ((x : ℕ) → Contains (view l.fn.seat).seen x → Contains (view l.seat).seen x)

abbrev pub decreases-loop-member : goal.decreases-loop-member
decreases-loop-member l = length l.crew.items
