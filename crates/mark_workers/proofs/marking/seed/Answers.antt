-- Answers of `seed`: what its calls ask for, and what it promises.
use Rattle.std.proofs.Common.{false, arith, subst, sym, take, take_all, ◌∙◌}
use Rattle.std.specs.List.{All, Contains}
use Rattle.std.proofs.lemmas.List.Elements.{All-more, All-weaker}
use Rattle.mark_core.specs.declared.system.System.{System}
use Rattle.mark_machine.specs.declared.machine.Event.TheVariants.{GiveBack}
use Rattle.mark_machine.specs.Machine.{view_after}
use Rattle.mark_words.specs.Seats.{view, system_of}
use Rattle.mark_workers.proofs.Joining.{seat_after, seeded}
use Rattle.mark_workers.proofs.Kept.{kept_trans}
use Rattle.mark_workers.proofs.Known.{knows_after, seen_giving}
use Rattle.mark_workers.proofs.marking.seed.Goals as goal

pub loop-id-preserved : goal.loop-id-preserved
loop-id-preserved c =
    let n = (system_of c.args.table.now).n in
    let k = c.claim.ensures.kept in
    let v = view c.loop-id.driver.seat in
    let w = view c.claim.new.seat in
    let seeds = c.as_slice-id-items.result.now in (
      c.claim.ensures.seat,
      kept_trans n (view c.args.driver.now.seat) v w c.loop-id.invariant.1 k,
      All-more (Contains w.seen) seeds c.loop-id.id-index 0 c.loop-id-test.true
          (All-weaker (Contains v.seen) (Contains w.seen) k.seen (take c.loop-id.id-index seeds)
          c.loop-id.invariant.2)
          c.claim.ensures.seen,
      c.claim.ensures.knows,
    )

pub end_seeding-requires-clause-seen : goal.end_seeding-requires-clause-seen
end_seeding-requires-clause-seen c =
    let seen = (view c.loop-id.driver.seat).seen in
    let seeds = c.as_slice-id-items.result.now in
    subst (λ (t : System). All (Contains seen) t.seeds) (sym c.requires.system)
    (subst (All (Contains seen))
    (take_all c.loop-id.id-index seeds (omega (arith, c.loop-id-test.false)) ∙ c.as_slice-id-items.ensures)
    c.loop-id.invariant.2)

pub returns-clause-ready : goal.returns-clause-ready
returns-clause-ready c = (
  seat_after c.args.table.now c.loop-id.driver.seat c.end_seeding.new.seat GiveBack false c.loop-id.invariant.0
      c.end_seeding.ensures,
  (seeded (system_of c.args.table.now).n (view c.args.driver.now.seat) (view c.loop-id.driver.seat)
      (view c.end_seeding.new.seat) c.requires.seeding c.loop-id.invariant.1 c.end_seeding.ensures.1).0,
  knows_after (system_of c.args.table.now).n (view c.loop-id.driver.seat)
      (view_after (view c.loop-id.driver.seat) GiveBack false) (view c.end_seeding.new.seat)
      c.loop-id.driver.tasks.known.items c.end_seeding.ensures.1 (seen_giving (view c.loop-id.driver.seat))
      c.loop-id.invariant.3,
)
