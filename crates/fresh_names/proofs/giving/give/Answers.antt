-- Answers of `give`: what its calls ask for, and what it promises.
use Rattle.std.proofs.Common.{◌∙◌, ap, sym}
use Rattle.fresh_names.specs.bodies.Giving.{front_in, stays_in, what_stays}
use Rattle.fresh_names.specs.declared.taken.Named.{Named}
use Rattle.fresh_names.proofs.OneMore.{given_by_steps, gives_not}
use Rattle.fresh_names.proofs.giving.give.Goals as goal

pub returns-then-has_name : goal.returns-then-has_name
returns-then-has_name g c = λ told keys done news given.
    gives_not g.K.PartialEq.eq g.met.K.Eq.laws (g.K.Grouped.pair (what_stays c.args.stays.now))
    (g.met.K.Grouped.told_apart (what_stays c.args.stays.now)) told (stays_in c.args.stays.now)
    (front_in c.args.stays.now) keys done c.args.table.now c.args.next.now c.args.key.now given c.in_ok-member.member
    (c.in_ok-member.ensures ∙ ap (λ (n : Named). g.K.Grouped.pair n c.args.key.now) c.named.ensures)
    (sym c.has_name.ensures ∙ c.if-has_name.true)

pub returns : goal.returns
returns g c = λ told keys done news given.
    given_by_steps g.K.PartialEq.eq g.met.K.Eq.laws (g.K.Grouped.pair (what_stays c.args.stays.now))
    (g.met.K.Grouped.told_apart (what_stays c.args.stays.now)) told (stays_in c.args.stays.now)
    (front_in c.args.stays.now) keys done c.args.table.now c.args.next.now c.args.key.now given c.in_ok-member.member
    (c.in_ok-member.ensures ∙ ap (λ (n : Named). g.K.Grouped.pair n c.args.key.now) c.named.ensures)
    (sym c.has_name.ensures ∙ c.if-has_name.false) c.args.news.now news c.number_of.result
    c.number_of.ensures c.in_ok-number.number c.in_ok-number.ensures c.in_ok-front.front c.in_ok-front.ensures
    c.in_ok-new.new c.in_ok-new.ensures c.in_ok-behind.behind c.in_ok-behind.ensures c.put_name.new.table
    c.in_ok-put_name.ensures c.put_number.result c.put_number.new.next c.put_number.ensures
