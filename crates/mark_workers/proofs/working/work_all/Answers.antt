-- Answers of `work_all`: what its calls ask for, and what it promises.
use Rattle.std.proofs.Common.{rules, subst, sym}
use denote.Param.Send.{sendable}
use Rattle.mark_workers.specs.Ready.{Hired}
use Rattle.mark_workers.proofs.working.work_all.Goals as goal

pub for_each_mut-requires-clause-accepts : goal.for_each_mut-requires-clause-accepts
for_each_mut-requires-clause-accepts g c κs within i p lt e = (
  (c.requires.fits, subst (Hired c.args.table.now c.args.seats) (sym e) (c.requires.crew i p.now lt)),
  search
      sendable depth 20,
)

pub returns : goal.returns
returns g c k d lt =
    let at = (c.for_each_mut.ensures k d (search rules)).1 in
    subst (Hired c.args.table.now c.args.seats) at.left at.call
