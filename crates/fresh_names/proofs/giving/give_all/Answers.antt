-- Answers of `give_all`: what its calls ask for, and what it promises.
use Rattle.std.proofs.Common.{List, ℕ, ◌∷◌, ◌++◌, [], sym, subst, take, ◌∙◌}
use Rattle.std.proofs.lemmas.List.{take_all, take_more}
use Rattle.fresh_names.specs.bodies.Giving.{IsGiven, front_in, stays_in, what_stays}
use Rattle.fresh_names.proofs.OneMore.{none_given}
use Rattle.fresh_names.proofs.giving.give_all.Goals as goal

pub loop-key-init : goal.loop-key-init
loop-key-init g c = λ told applied.
    let pair = g.K.Grouped.pair (what_stays c.args.stays.now) in
    subst (λ (n : List (List ℕ × ℕ)). IsGiven g.K.PartialEq.eq pair told (stays_in c.args.stays.now)
    (front_in c.args.stays.now) c.args.keys.now [] c.args.table.now n) (sym c.requires.next)
    (none_given g.K.PartialEq.eq g.met.K.Eq.laws pair (g.met.K.Grouped.told_apart (what_stays c.args.stays.now)) told
    (stays_in c.args.stays.now) (front_in c.args.stays.now) c.args.keys.now c.args.table.now c.args.news.now applied)

pub loop-key-preserved : goal.loop-key-preserved
loop-key-preserved g c = λ told applied.
    subst (λ (l : List g.row.K.Denot). IsGiven g.K.PartialEq.eq (g.K.Grouped.pair (what_stays c.args.stays.now)) told
    (stays_in c.args.stays.now) (front_in c.args.stays.now) c.args.keys.now l c.give.new.table c.give.new.next)
    ((λ i. take c.loop-key.key-index c.args.keys.now ++ c.key-item.is i ∷ [])
    ∙ sym (take_more c.args.keys.now c.loop-key.key-index c.key-item.result c.loop-key-test.true))
    (c.in_ok-give.ensures told c.args.keys.now (take c.loop-key.key-index c.args.keys.now) applied.taken
    (c.loop-key.invariant told applied))

pub returns : goal.returns
returns g c = λ told applied.
    subst (λ (l : List g.row.K.Denot). IsGiven g.K.PartialEq.eq (g.K.Grouped.pair (what_stays c.args.stays.now)) told
    (stays_in c.args.stays.now) (front_in c.args.stays.now) c.args.keys.now l c.loop-key.table c.loop-key.next)
    (take_all c.loop-key.key-index c.args.keys.now c.loop-key-test.false) (c.loop-key.invariant told applied)
