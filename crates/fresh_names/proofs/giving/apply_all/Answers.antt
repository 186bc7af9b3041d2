-- Answers of `apply_all`: what its calls ask for, and what it promises.
use Rattle.std.proofs.Common.{List, ◌∷◌, ◌++◌, [], sym, subst, take, ◌∙◌}
use Rattle.std.proofs.lemmas.List.{take_all, take_more}
use Rattle.class_rename.specs.Names.{MethodName}
use Rattle.fresh_names.specs.bodies.Giving.{IsApplied, stays_in, what_stays}
use Rattle.fresh_names.proofs.Groups.{none_applied}
use Rattle.fresh_names.proofs.giving.apply_all.Goals as goal

pub loop-key-init : goal.loop-key-init
loop-key-init g c = λ told tells.
    let pair = g.K.Grouped.pair (what_stays c.args.stays.now) in
    subst (λ (t : List _). IsApplied g.K.PartialEq.eq pair told (stays_in c.args.stays.now) [] t c.args.news.now)
    (sym c.requires.table)
    (subst (λ (n : List MethodName). IsApplied g.K.PartialEq.eq pair told (stays_in c.args.stays.now) [] [] n)
    (sym c.requires.news)
    (none_applied g.K.PartialEq.eq g.met.K.Eq.laws pair (g.met.K.Grouped.told_apart (what_stays c.args.stays.now)) told
    (stays_in c.args.stays.now)))

pub loop-key-preserved : goal.loop-key-preserved
loop-key-preserved g c = λ told tells.
    subst (λ (l : List g.row.K.Denot). IsApplied g.K.PartialEq.eq (g.K.Grouped.pair (what_stays c.args.stays.now))
    told (stays_in c.args.stays.now) l c.apply.new.table
    c.apply.new.news)
    ((λ i. take c.loop-key.key-index c.args.keys.now ++ c.key-item.is i ∷ [])
    ∙ sym (take_more c.args.keys.now c.loop-key.key-index c.key-item.result c.loop-key-test.true))
    (c.in_ok-apply.ensures told (take c.loop-key.key-index c.args.keys.now) tells (c.loop-key.invariant told tells))

pub returns : goal.returns
returns g c = λ told tells.
    subst (λ (l : List g.row.K.Denot). IsApplied g.K.PartialEq.eq (g.K.Grouped.pair (what_stays c.args.stays.now))
    told (stays_in c.args.stays.now) l c.loop-key.table
    c.loop-key.news)
    (take_all c.loop-key.key-index c.args.keys.now c.loop-key-test.false) (c.loop-key.invariant told tells)
