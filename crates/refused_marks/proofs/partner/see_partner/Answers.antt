-- Answers of `see_partner`: what its calls ask for, and what it promises.
use Rattle.std.proofs.Common.{subst, sym, inl, inr, refl, ◌∙◌}
use Rattle.std.specs.List.{Contains}
use Rattle.mark_machine.specs.declared.machine.View.{View}
use Rattle.mark_machine.specs.declared.machine.Event.TheVariants.{LookAt}
use Rattle.mark_machine.specs.Machine.{view_after, look}
use Rattle.mark_words.specs.Seats.{view, system_of, after_claim}
use Rattle.mark_workers.proofs.Kept.{kept_claim, kept_look, kept_trans, look_seen, look_stands, may_kept, seat_kept}
use Rattle.mark_workers.proofs.Kept.{seen_claim}
use Rattle.refused_marks.proofs.partner.see_partner.Goals as goal

pub claim-requires-clause-seat : goal.claim-requires-clause-seat
claim-requires-clause-seat c =
    let n = (system_of c.args.table.now).n in
    let v = view c.args.seat.now in
    (seat_kept n c.args.table.now c.args.seat.now c.is_marked.new.seat
    (view_after v (LookAt c.args.pair.two) c.is_marked.result) c.requires.seat c.is_marked.ensures.event
    (kept_look n v c.args.pair.one c.args.pair.two c.is_marked.result c.requires.below.1 c.requires.busy.0)).0

pub claim-requires-clause-free : goal.claim-requires-clause-free
claim-requires-clause-free c =
    let n = (system_of c.args.table.now).n in
    let v = view c.args.seat.now in
    let both = seat_kept n c.args.table.now c.args.seat.now c.is_marked.new.seat
    (view_after v (LookAt c.args.pair.two) c.is_marked.result) c.requires.seat c.is_marked.ensures.event
    (kept_look n v c.args.pair.one c.args.pair.two c.is_marked.result c.requires.below.1 c.requires.busy.0) in
    both.1.reserved ∙ c.requires.busy.1

pub claim-requires-clause-due : goal.claim-requires-clause-due
claim-requires-clause-due c =
    let n = (system_of c.args.table.now).n in
    let v = view c.args.seat.now in
    let both = seat_kept n c.args.table.now c.args.seat.now c.is_marked.new.seat
    (view_after v (LookAt c.args.pair.two) c.is_marked.result) c.requires.seat c.is_marked.ensures.event
    (kept_look n v c.args.pair.one c.args.pair.two c.is_marked.result c.requires.below.1 c.requires.busy.0) in
    may_kept n (system_of c.args.table.now) v (view c.is_marked.new.seat) c.args.pair.one c.args.pair c.args.pair.two
    c.requires.busy both.1 c.requires.pair (inl (refl, refl))
    (subst (λ (u : View). Contains u.seen c.args.pair.two) (sym c.is_marked.ensures.event.1)
    (look_seen v c.args.pair.two c.is_marked.result c.if-is_marked.true))

pub returns-then-is_marked-clause-seat : goal.returns-then-is_marked-clause-seat
returns-then-is_marked-clause-seat c =
    let n = (system_of c.args.table.now).n in
    let v = view c.args.seat.now in
    let both = seat_kept n c.args.table.now c.args.seat.now c.is_marked.new.seat
    (view_after v (LookAt c.args.pair.two) c.is_marked.result) c.requires.seat c.is_marked.ensures.event
    (kept_look n v c.args.pair.one c.args.pair.two c.is_marked.result c.requires.below.1 c.requires.busy.0) in
    (seat_kept n c.args.table.now c.is_marked.new.seat c.claim.new.seat
    (after_claim (view c.is_marked.new.seat) c.args.pair.derived c.claim.result) both.0 c.claim.ensures
    (kept_claim n (view c.is_marked.new.seat) c.args.pair.derived c.claim.result c.requires.below.2
    (both.1.reserved ∙ c.requires.busy.1))).0

pub returns-then-is_marked-clause-kept : goal.returns-then-is_marked-clause-kept
returns-then-is_marked-clause-kept c =
    let n = (system_of c.args.table.now).n in
    let v = view c.args.seat.now in
    let both = seat_kept n c.args.table.now c.args.seat.now c.is_marked.new.seat
    (view_after v (LookAt c.args.pair.two) c.is_marked.result) c.requires.seat c.is_marked.ensures.event
    (kept_look n v c.args.pair.one c.args.pair.two c.is_marked.result c.requires.below.1 c.requires.busy.0) in
    kept_trans n v (view c.is_marked.new.seat) (view c.claim.new.seat) both.1
    (seat_kept n c.args.table.now c.is_marked.new.seat c.claim.new.seat
    (after_claim (view c.is_marked.new.seat) c.args.pair.derived c.claim.result) both.0 c.claim.ensures
    (kept_claim n (view c.is_marked.new.seat) c.args.pair.derived c.claim.result c.requires.below.2
    (both.1.reserved ∙ c.requires.busy.1))).1

pub returns-then-is_marked-clause-seen : goal.returns-then-is_marked-clause-seen
returns-then-is_marked-clause-seen c =
    inl (subst (λ (u : View). Contains u.seen c.args.pair.derived) (sym c.claim.ensures.1)
    (seen_claim (view c.is_marked.new.seat) c.args.pair.derived c.claim.result))

pub returns-else-is_marked-clause-seat : goal.returns-else-is_marked-clause-seat
returns-else-is_marked-clause-seat c =
    let n = (system_of c.args.table.now).n in
    let v = view c.args.seat.now in
    (seat_kept n c.args.table.now c.args.seat.now c.is_marked.new.seat
    (view_after v (LookAt c.args.pair.two) c.is_marked.result) c.requires.seat c.is_marked.ensures.event
    (kept_look n v c.args.pair.one c.args.pair.two c.is_marked.result c.requires.below.1 c.requires.busy.0)).0

pub returns-else-is_marked-clause-kept : goal.returns-else-is_marked-clause-kept
returns-else-is_marked-clause-kept c =
    let n = (system_of c.args.table.now).n in
    let v = view c.args.seat.now in
    (seat_kept n c.args.table.now c.args.seat.now c.is_marked.new.seat
    (view_after v (LookAt c.args.pair.two) c.is_marked.result) c.requires.seat c.is_marked.ensures.event
    (kept_look n v c.args.pair.one c.args.pair.two c.is_marked.result c.requires.below.1 c.requires.busy.0)).1

pub returns-else-is_marked-clause-seen : goal.returns-else-is_marked-clause-seen
returns-else-is_marked-clause-seen c =
    inr (subst (λ (u : View). Contains u.looks (look c.args.pair.one c.args.pair.two))
    (sym c.is_marked.ensures.event.1)
    (look_stands (view c.args.seat.now) c.args.pair.one c.args.pair.two c.is_marked.result c.requires.busy.0
    c.if-is_marked.false))
