use Rattle.mark_words.specs.Seats.{view}
use Rattle.mark_workers.specs.Ready.{Ready, SameSeats}
use Rattle.mark_workers.proofs.working.work.Given as goal

abbrev pub invariant-loop : goal.invariant-loop
invariant-loop g l = Ready l.table l.member × SameSeats (view l.fn.member.seat) (view l.member.seat)
