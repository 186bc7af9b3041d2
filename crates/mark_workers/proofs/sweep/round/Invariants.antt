use Rattle.std.proofs.Common.{◌≡◌, ◌<◌, ◌≤◌, true, false}
use Rattle.mark_words.specs.Seats.{view, system_of, IsSeatOf}
use Rattle.mark_workers.specs.Sweep.{Rests, IsSwept, left_of}
use Rattle.mark_workers.specs.Work.{Knows}
use Rattle.mark_workers.proofs.sweep.round.Given as goal

abbrev pub invariant-loop-id : goal.invariant-loop-id
invariant-loop-id l =
    IsSeatOf l.table l.seat × Rests (system_of l.table).n (view l.seat)
    × (l.took ≡ false → IsSwept l.id (view l.seat))
    × (left_of l.sys.n (view l.seat) ≤ left_of l.sys.n (view l.fn.seat))
    × (l.took ≡ true → left_of l.sys.n (view l.seat) < left_of l.sys.n (view l.fn.seat))
    × Knows (system_of l.table).n (view l.seat) l.tasks.known.items
