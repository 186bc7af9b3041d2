use Rattle.mark_words.specs.Seats.{view, system_of, IsSeatOf}
use Rattle.mark_workers.specs.Sweep.{Rests, left_of}
use Rattle.mark_workers.specs.Work.{Knows}
use Rattle.mark_workers.proofs.sweep.sweep.Given as goal

abbrev pub invariant-loop-took : goal.invariant-loop-took
invariant-loop-took l =
    IsSeatOf l.table l.seat × Rests (system_of l.table).n (view l.seat)
    × Knows (system_of l.table).n (view l.seat) l.tasks.known.items

abbrev pub decreases-loop-took : goal.decreases-loop-took
decreases-loop-took l = left_of l.sys.n (view l.seat)
