use Rattle.std.proofs.Common.{take}
use Rattle.std.specs.List.{All, Contains}
use Rattle.mark_words.specs.Seats.{view, system_of, IsSeatOf}
use Rattle.mark_workers.specs.Work.{Kept, Knows}
use Rattle.mark_workers.proofs.item.claim_needs.Given as goal

abbrev pub invariant-loop-item : goal.invariant-loop-item
invariant-loop-item l =
    IsSeatOf l.table l.seat × Kept (system_of l.table).n (view l.fn.seat) (view l.seat)
    × All (Contains (view l.seat).seen) (take l.item-index l.item-items)
    × Knows (system_of l.table).n (view l.seat) l.tasks.known.items
