-- Answers of `try_item`: what its calls ask for, and what it promises.
use Rattle.std.proofs.Common.{true, false}
use Rattle.mark_machine.specs.declared.machine.Event.TheVariants.{Take}
use Rattle.mark_machine.specs.Machine.{view_after}
use Rattle.mark_words.specs.Seats.{view, system_of}
use Rattle.mark_workers.proofs.Joining.{seat_after}
use Rattle.mark_workers.proofs.Known.{knows_after, seen_taking}
use Rattle.mark_workers.proofs.Taking.{free_finished, free_kept, free_refused}
use Rattle.mark_workers.proofs.working.try_item.Goals as goal

pub take-requires-clause-allowed : goal.take-requires-clause-allowed
take-requires-clause-allowed g c =
    let free = free_kept (system_of c.args.table.now).n (view c.args.member.now.seat) (view c.sees.new.seat)
    c.requires.ready.1 c.sees.ensures.kept in
    (free.0, free.1, c.sees.ensures.seen c.if-sees.true)

pub do_item-requires-clause-knows : goal.do_item-requires-clause-knows
do_item-requires-clause-knows g c =
    let m = view c.sees.new.seat in
    knows_after (system_of c.args.table.now).n m (view_after m (Take c.args.id) false) (view c.take.new.seat)
    c.sees.new.tasks.known.items c.in-Mine.ensures.event.1 (seen_taking m c.args.id false) c.sees.ensures.knows

pub returns-in-Mine-clause-ready : goal.returns-in-Mine-clause-ready
returns-in-Mine-clause-ready g c =
    let n = (system_of c.args.table.now).n in
    let free = free_kept n (view c.args.member.now.seat) (view c.sees.new.seat) c.requires.ready.1 c.sees.ensures.kept
    in (
      c.do_item.ensures.seat,
      free_finished n (view c.sees.new.seat) (view c.take.new.seat) (view c.do_item.new.seat) c.args.id free
          c.in-Mine.ensures.event.1 c.do_item.ensures.did,
      c.do_item.ensures.knows,
    )

pub returns-in-Others-clause-ready : goal.returns-in-Others-clause-ready
returns-in-Others-clause-ready g c =
    let t = c.args.table.now in
    let n = (system_of c.args.table.now).n in
    let m = view c.sees.new.seat in
    let free = free_kept n (view c.args.member.now.seat) m c.requires.ready.1 c.sees.ensures.kept in (
      seat_after t c.sees.new.seat c.take.new.seat (Take c.args.id) true c.sees.ensures.seat c.in-Others.ensures.event,
      free_refused n m (view c.take.new.seat) c.args.id free c.in-Others.ensures.event.1,
      knows_after n m (view_after m (Take c.args.id) true) (view c.take.new.seat) c.sees.new.tasks.known.items
          c.in-Others.ensures.event.1 (seen_taking m c.args.id true) c.sees.ensures.knows,
    )

pub returns-else-sees-clause-ready : goal.returns-else-sees-clause-ready
returns-else-sees-clause-ready g c = (
  c.sees.ensures.seat,
  free_kept (system_of c.args.table.now).n (view c.args.member.now.seat) (view c.sees.new.seat) c.requires.ready.1
      c.sees.ensures.kept,
  c.sees.ensures.knows,
)
