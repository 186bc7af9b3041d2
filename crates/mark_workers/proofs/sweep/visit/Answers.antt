-- Answers of `visit`: what its calls ask for, and what it promises.
use Rattle.std.proofs.Common.{◌<◌, true, false, refl, subst, sym}
use Rattle.mark_core.specs.declared.system.System.{System}
use Rattle.mark_machine.specs.declared.machine.Event.TheVariants.{LookAt, Take}
use Rattle.mark_machine.specs.Machine.{view_after}
use Rattle.mark_words.specs.Seats.{view, system_of}
use Rattle.mark_workers.proofs.Known.{kept_looked, knows_after, seen_taking}
use Rattle.mark_workers.proofs.Rounds.{not_marked, taken_before, taken_now}
use Rattle.mark_workers.proofs.Taking.{may_take}
use Rattle.mark_workers.proofs.sweep.visit.Goals as goal

pub take-requires-clause-allowed : goal.take-requires-clause-allowed
take-requires-clause-allowed c = may_take (system_of c.args.table.now).n (view c.args.seat.now)
    (view c.is_marked.new.seat) c.args.id c.requires.rests.0 c.if-is_marked.ensures.event.1

pub returns-in-Mine-clause-visited : goal.returns-in-Mine-clause-visited
returns-in-Mine-clause-visited c =
    let lt = subst (λ (t : System). c.args.id < t.n) (sym c.requires.fits.0) c.requires.id in
    taken_now (system_of c.args.table.now).n (view c.args.seat.now) (view c.is_marked.new.seat) (view c.take.new.seat)
    (view c.do_item.new.seat) c.args.id lt c.requires.rests c.if-is_marked.ensures.event.1 c.in-Mine.ensures.event.1
    (c.in-Mine.ensures.fresh refl) c.do_item.ensures.did

pub returns-in-Others-clause-visited : goal.returns-in-Others-clause-visited
returns-in-Others-clause-visited c =
    let lt = subst (λ (t : System). c.args.id < t.n) (sym c.requires.fits.0) c.requires.id in
    taken_before (system_of c.args.table.now).n (view c.args.seat.now) (view c.is_marked.new.seat)
    (view c.take.new.seat) c.args.id lt c.requires.rests c.if-is_marked.ensures.event.1 c.in-Others.ensures.event.1
    (λ full. c.in-Others.ensures.full full refl)

pub returns-else-is_marked-clause-visited : goal.returns-else-is_marked-clause-visited
returns-else-is_marked-clause-visited c = not_marked (system_of c.args.table.now).n (view c.args.seat.now)
    (view c.is_marked.new.seat) c.args.id c.requires.rests c.if-is_marked.ensures.event.1
    (c.if-is_marked.ensures.unseen refl)

pub do_item-requires-clause-knows : goal.do_item-requires-clause-knows
do_item-requires-clause-knows c =
    let n = (system_of c.args.table.now).n in
    let v = view c.args.seat.now in
    let m = view c.is_marked.new.seat in
    let lt = subst (λ (t : System). c.args.id < t.n) (sym c.requires.fits.0) c.requires.id in
    knows_after n m (view_after m (Take c.args.id) false) (view c.take.new.seat) c.args.tasks.now.known.items
    c.in-Mine.ensures.event.1 (seen_taking m c.args.id false)
    (knows_after n v (view_after v (LookAt c.args.id) true) m c.args.tasks.now.known.items
    c.if-is_marked.ensures.event.1 (kept_looked n v c.args.id true lt).seen c.requires.knows)

pub returns-in-Others-clause-knows : goal.returns-in-Others-clause-knows
returns-in-Others-clause-knows c =
    let n = (system_of c.args.table.now).n in
    let v = view c.args.seat.now in
    let m = view c.is_marked.new.seat in
    let lt = subst (λ (t : System). c.args.id < t.n) (sym c.requires.fits.0) c.requires.id in
    knows_after n m (view_after m (Take c.args.id) true) (view c.take.new.seat) c.args.tasks.now.known.items
    c.in-Others.ensures.event.1 (seen_taking m c.args.id true)
    (knows_after n v (view_after v (LookAt c.args.id) true) m c.args.tasks.now.known.items
    c.if-is_marked.ensures.event.1 (kept_looked n v c.args.id true lt).seen c.requires.knows)

pub returns-else-is_marked-clause-knows : goal.returns-else-is_marked-clause-knows
returns-else-is_marked-clause-knows c =
    let n = (system_of c.args.table.now).n in
    let v = view c.args.seat.now in
    let lt = subst (λ (t : System). c.args.id < t.n) (sym c.requires.fits.0) c.requires.id in
    knows_after n v (view_after v (LookAt c.args.id) false) (view c.is_marked.new.seat) c.args.tasks.now.known.items
    c.if-is_marked.ensures.event.1 (kept_looked n v c.args.id false lt).seen c.requires.knows
