use Rattle.std.proofs.Common.{◌≡◌, ◌+◌, length}
use Rattle.std.specs.List.{All}
use Rattle.mark_words.specs.Seats.{IsNewcomer}
use Rattle.mark_workers.specs.Ready.{Hired}
use Rattle.mark_workers.proofs.crew.hire.Given as goal

abbrev pub invariant-loop-seat : goal.invariant-loop-seat
invariant-loop-seat l =
    All (IsNewcomer l.table (l.workers + 1)) l.seats.items × All (Hired l.table (l.workers + 1)) l.crew.items
    × (length l.crew.items ≡ l.number) × (length l.seats.items + length l.crew.items ≡ l.workers)

abbrev pub decreases-loop-seat : goal.decreases-loop-seat
decreases-loop-seat l = length l.seats.items
