-- Answers of `claim_on_table`: what its calls ask for, and what it promises.
use Rattle.std.proofs.Common.{subst, sym}
use Rattle.std.specs.List.{Contains}
use Rattle.mark_machine.specs.declared.machine.View.{View}
use Rattle.mark_words.specs.Seats.{view, system_of, after_claim}
use Rattle.mark_workers.specs.Work.{Knows}
use Rattle.mark_workers.proofs.Known.{knows_itself, knows_more}
use Rattle.mark_workers.proofs.Kept.{kept_claim, seen_claim, seat_kept}
use Rattle.mark_workers.proofs.item.claim_on_table.Goals as goal

pub returns-then-eq-clause-kept : goal.returns-then-eq-clause-kept
returns-then-eq-clause-kept c =
    let n = (system_of c.args.table.now).n in
    let v = view c.args.seat.now in
    (seat_kept n c.args.table.now c.args.seat.now c.claim-claimed.new.seat (after_claim v c.args.item c.claim-claimed.result)
    c.requires.seat c.claim-claimed.ensures (kept_claim n v c.args.item c.claim-claimed.result c.requires.item c.requires.free)).1

pub returns-then-eq-clause-seen : goal.returns-then-eq-clause-seen
returns-then-eq-clause-seen c = subst (λ (u : View). Contains u.seen c.args.item) (sym c.claim-claimed.ensures.1)
    (seen_claim (view c.args.seat.now) c.args.item c.claim-claimed.result)

pub returns-else-eq-clause-kept : goal.returns-else-eq-clause-kept
returns-else-eq-clause-kept c =
    let n = (system_of c.args.table.now).n in
    let v = view c.args.seat.now in
    (seat_kept n c.args.table.now c.args.seat.now c.claim-claimed.new.seat (after_claim v c.args.item c.claim-claimed.result)
    c.requires.seat c.claim-claimed.ensures (kept_claim n v c.args.item c.claim-claimed.result c.requires.item c.requires.free)).1

pub returns-else-eq-clause-seen : goal.returns-else-eq-clause-seen
returns-else-eq-clause-seen c = subst (λ (u : View). Contains u.seen c.args.item) (sym c.claim-claimed.ensures.1)
    (seen_claim (view c.args.seat.now) c.args.item c.claim-claimed.result)

pub returns-then-eq-clause-knows : goal.returns-then-eq-clause-knows
returns-then-eq-clause-knows c =
    let n = (system_of c.args.table.now).n in
    let v = view c.args.seat.now in
    let w = view c.claim-claimed.new.seat in
    let kept = (seat_kept n c.args.table.now c.args.seat.now c.claim-claimed.new.seat (after_claim v c.args.item c.claim-claimed.result)
    c.requires.seat c.claim-claimed.ensures (kept_claim n v c.args.item c.claim-claimed.result c.requires.item c.requires.free)).1 in
    let seen : Contains w.seen c.args.item = subst (λ (u : View). Contains u.seen c.args.item) (sym c.claim-claimed.ensures.1)
    (seen_claim v c.args.item c.claim-claimed.result) in
    subst (Knows n w) (sym c.add.ensures)
    (knows_itself n w c.args.tasks.now.known.items c.args.item
    (knows_more n v w c.args.tasks.now.known.items kept.seen c.requires.knows) seen)

pub returns-else-eq-clause-knows : goal.returns-else-eq-clause-knows
returns-else-eq-clause-knows c =
    let n = (system_of c.args.table.now).n in
    let v = view c.args.seat.now in
    let w = view c.claim-claimed.new.seat in
    let kept = (seat_kept n c.args.table.now c.args.seat.now c.claim-claimed.new.seat (after_claim v c.args.item c.claim-claimed.result)
    c.requires.seat c.claim-claimed.ensures (kept_claim n v c.args.item c.claim-claimed.result c.requires.item c.requires.free)).1 in
    let seen : Contains w.seen c.args.item = subst (λ (u : View). Contains u.seen c.args.item) (sym c.claim-claimed.ensures.1)
    (seen_claim v c.args.item c.claim-claimed.result) in
    knows_itself n w c.args.tasks.now.known.items c.args.item
    (knows_more n v w c.args.tasks.now.known.items kept.seen c.requires.knows) seen
