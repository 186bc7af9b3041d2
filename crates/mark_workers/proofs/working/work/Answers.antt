-- Answers of `work`: what its calls ask for, and what it promises.
use Rattle.std.proofs.Common.{Bool, List, subst, sym, ◌∙◌}
use Rattle.mark_machine.specs.declared.machine.Event.TheVariants.{SeeIdle}
use Rattle.mark_machine.specs.Machine.{view_after}
use Rattle.mark_words.specs.Seats.{view, system_of}
use Rattle.mark_workers.specs.Ready.{Ready, SameSeats}
use Rattle.mark_workers.specs.Work.{Knows}
use Rattle.mark_workers.specs.declared.crew.Member.{Member}
use Rattle.mark_workers.proofs.Joining.{ready_idle}
use Rattle.mark_workers.proofs.Known.{knows_after, seen_idle}
use Rattle.mark_workers.proofs.working.work.Goals as goal
use Rattle.mark_workers.proofs.working.work.Goals.{in-Some+then-id-sys, in-Some+else-id-sys, in-None+else-idle}
use Rattle.mark_workers.proofs.working.work.Goals.{else-loop-test, then-loop-test+in-None+then-idle}

pub try_item-requires-clause-ready : goal.try_item-requires-clause-ready
try_item-requires-clause-ready g c κs within =
    let n = (system_of c.args.table.now).n in
    let i = c.loop.invariant.0 in
    (i.0, i.1, subst (Knows n (view c.loop.member.seat)) (sym {A = List Bool} c.find.ensures) i.2)

pub loop-preserved : goal.loop-preserved
loop-preserved g c =
    let t = c.args.table.now in
    let n = (system_of c.args.table.now).n in
    let start = view c.args.member.now.seat in
    let i = c.loop.invariant in
    let knows : Knows n (view c.loop.member.seat) c.find.new.self.known.items =
    subst (Knows n (view c.loop.member.seat)) (sym {A = List Bool} c.find.ensures) i.0.2 in
    elim c.match-find.branch [
      | in-Some+then-id-sys w ↦ subst (λ (m : Member). Ready t m × SameSeats start (view m.seat)) (sym w.member-is)
          (w.try_item.ensures.ready, (w.try_item.ensures.seats.0 ∙ i.1.0, w.try_item.ensures.seats.1 ∙ i.1.1))
      | in-Some+else-id-sys w ↦ subst (λ (m : Member). Ready t m × SameSeats start (view m.seat)) (sym w.member-is)
          ((i.0.0, i.0.1, knows), i.1)
      | in-None+else-idle w ↦ subst (λ (m : Member). Ready t m × SameSeats start (view m.seat)) (sym w.member-is)
          (let r = ready_idle t c.loop.member.seat w.idle.new.seat w.idle.result i.0.0 i.0.1 w.idle.ensures.event in (
            (
              r.0.0,
              r.0.1,
              knows_after n (view c.loop.member.seat)
                  (view_after (view c.loop.member.seat) SeeIdle w.idle.result) (view w.idle.new.seat)
                  c.find.new.self.known.items w.idle.ensures.event.1
                  (seen_idle (view c.loop.member.seat) w.idle.result) knows,
            ),
            (r.1.0 ∙ i.1.0, r.1.1 ∙ i.1.1),
          ))
    ]

pub returns-clause-ready : goal.returns-clause-ready
returns-clause-ready g c =
    let t = c.args.table.now in
    let n = (system_of c.args.table.now).n in
    let i = c.loop.invariant in
    let ready : Ready t c.loop-test.member =
    elim c.loop-test.branch [
      | else-loop-test w ↦ subst (λ (m : Member). Ready t m) (sym w.member-is) i.0
      | then-loop-test+in-None+then-idle w ↦ subst (λ (m : Member). Ready t m) (sym w.member-is)
          (let r = ready_idle t c.loop.member.seat w.idle.new.seat w.idle.result i.0.0 i.0.1 w.idle.ensures.event in (
            r.0.0,
            r.0.1,
            knows_after n (view c.loop.member.seat)
                (view_after (view c.loop.member.seat) SeeIdle w.idle.result) (view w.idle.new.seat)
                w.find.new.self.known.items w.idle.ensures.event.1
                (seen_idle (view c.loop.member.seat) w.idle.result)
                (subst (Knows n (view c.loop.member.seat)) (sym {A = List Bool} w.find.ensures) i.0.2),
          ))
    ] in
    (ready.0, ready.1, subst (Knows n (view c.loop-test.member.seat)) (sym {A = List Bool} c.share.ensures) ready.2)
