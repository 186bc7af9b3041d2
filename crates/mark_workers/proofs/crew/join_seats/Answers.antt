-- Answers of `join_seats`: what its calls ask for, and what it promises.
use Rattle.std.proofs.Common.{◌≡◌, ◌+◌, ap, length, subst, sym, ◌∙◌}
use Rattle.std.specs.List.{All, Contains}
use Rattle.std.proofs.lemmas.List.{length_push}
use Rattle.std.proofs.lemmas.List.Elements.{Contains-append_left}
use Rattle.mark_machine.specs.declared.machine.View.{View}
use Rattle.mark_words.specs.Seats.{view, system_of}
use Rattle.mark_workers.specs.Ready.{Hired, IsFree}
use Rattle.mark_workers.proofs.Joining.{all_but_last, joined_count, joined_free, of_last, seat_joined}
use Rattle.mark_workers.proofs.crew.join_seats.Goals as goal

pub join-requires-clause-other : goal.join-requires-clause-other
join-requires-clause-other c =
    let P = Hired c.args.table.now (view c.loop-member.seat).all in
    (of_last P c.pop.new.self.items c.in-Some.member (subst (All P) c.in-Some.ensures.items
    c.loop-member.invariant.2)).0.0

pub join-requires-clause-hand : goal.join-requires-clause-hand
join-requires-clause-hand c =
    let P = Hired c.args.table.now (view c.loop-member.seat).all in
    (of_last P c.pop.new.self.items c.in-Some.member (subst (All P) c.in-Some.ensures.items
    c.loop-member.invariant.2)).0.1.0

pub join-requires-clause-notes : goal.join-requires-clause-notes
join-requires-clause-notes c =
    let P = Hired c.args.table.now (view c.loop-member.seat).all in
    let free = (of_last P c.pop.new.self.items c.in-Some.member (subst (All P) c.in-Some.ensures.items
    c.loop-member.invariant.2)).0.1 in
    (free.1, free.2)

pub loop-member-preserved : goal.loop-member-preserved
loop-member-preserved c =
    let n = (system_of c.args.table.now).n in
    let v = view c.loop-member.seat in
    let rest = c.pop.new.self.items in
    let member = c.in-Some.member in
    let w = view member.seat in
    let all = (view c.loop-member.seat).all in
    let P = Hired c.args.table.now all in
    let each = subst (All P) c.in-Some.ensures.items c.loop-member.invariant.2 in
    let last = of_last P rest member each in
    let is = c.join.ensures.1 in
    let less : length c.loop-member.crew.items ≡ length rest + 1 =
    ap length c.in-Some.ensures.items ∙ length_push rest member in (
      seat_joined c.args.table.now c.loop-member.seat c.join.new.seat w c.loop-member.invariant.0 c.join.ensures,
      subst (IsFree n) (sym is) (joined_free n v w c.loop-member.invariant.1 last.0.1),
      subst (λ (u : View). All (Hired c.args.table.now u.all) rest) (sym is) (all_but_last P rest member each),
      joined_count v w (view c.join.new.seat) (length c.loop-member.crew.items) (length rest) is last.1
          c.loop-member.invariant.3 less,
      λ x h. subst (λ (u : View). Contains u.seen x) (sym is)
          (Contains-append_left v.seen w.seen x (c.loop-member.invariant.4 x h)),
    )
