use Rattle.mark_words.specs.Seats.{view, system_of, IsSeatOf}
use Rattle.mark_workers.specs.Work.{Kept, Knows}
use Rattle.mark_workers.proofs.Places.{IsWalked}
use Rattle.mark_workers.proofs.item.look_pairs.Given as goal

abbrev pub invariant-loop-front : goal.invariant-loop-front
invariant-loop-front l =
    IsSeatOf l.table l.seat × Kept (system_of l.table).n (view l.fn.seat) (view l.seat)
    × IsWalked l.sys (view l.seat) l.id l.front
    × Knows (system_of l.table).n (view l.seat) l.tasks.known.items

abbrev pub decreases-loop-front : goal.decreases-loop-front
decreases-loop-front l = l.front
