use Rattle.std.proofs.Common.{take}
use Rattle.std.specs.List.{All, Contains}
use Rattle.mark_words.specs.Seats.{view, system_of, IsSeatOf}
use Rattle.mark_workers.specs.Work.{Kept, Knows}
use Rattle.mark_workers.proofs.marking.seed.Given as goal

abbrev pub invariant-loop-id : goal.invariant-loop-id
invariant-loop-id l =
    IsSeatOf l.table l.driver.seat × Kept (system_of l.table).n (view l.fn.driver.seat) (view l.driver.seat)
    × All (Contains (view l.driver.seat).seen) (take l.id-index l.id-items)
    × Knows (system_of l.table).n (view l.driver.seat) l.driver.tasks.known.items
