-- Answers of `join_all`: what its calls ask for, and what it promises.
use Rattle.mark_words.specs.Seats.{view, system_of}
use Rattle.mark_workers.proofs.Known.{knows_more}
use Rattle.mark_workers.proofs.crew.join_all.Goals as goal

pub returns-clause-ready : goal.returns-clause-ready
returns-clause-ready c = (
  c.join_seats.ensures.seat,
  c.join_seats.ensures.rests.0,
  knows_more (system_of c.args.table.now).n (view c.args.driver.now.seat) (view c.join_seats.new.seat)
      c.args.driver.now.tasks.known.items c.join_seats.ensures.seen c.requires.ready.2,
)
