-- Answers of `apply_new`: what its calls ask for, and what it promises.
use Rattle.std.proofs.Common.{true, false, List, ℕ, refl, sym, ap, ◌∙◌}
use Rattle.indexmap.specs.IndexMap.{insert_entry}
use Rattle.fresh_names.specs.bodies.Giving.{stays_in, what_stays}
use Rattle.fresh_names.proofs.Groups.{applied_or_not, applied_by_steps}
use Rattle.fresh_names.proofs.giving.apply_new.Goals as goal

pub returns-then-is_out : goal.returns-then-is_out
returns-then-is_out g c = λ told done is applied.
    applied_or_not g.K.PartialEq.eq g.met.K.Eq.laws (g.K.Grouped.pair (what_stays c.args.stays.now))
    (g.met.K.Grouped.told_apart (what_stays c.args.stays.now)) told (stays_in c.args.stays.now) done c.args.key.now
    c.args.table.now c.args.news.now c.args.member.now c.args.new c.requires.member c.requires.group is
    _ _ refl refl (sym c.is_out.ensures ∙ c.if-is_out.true) applied

pub returns : goal.returns
returns g c = λ told done is applied.
    applied_by_steps g.K.PartialEq.eq g.met.K.Eq.laws (g.K.Grouped.pair (what_stays c.args.stays.now))
    (g.met.K.Grouped.told_apart (what_stays c.args.stays.now)) told (stays_in c.args.stays.now) done c.args.key.now
    c.args.table.now c.args.news.now c.args.member.now c.args.new c.requires.member c.requires.group is
    _ _ refl refl (sym c.is_out.ensures ∙ c.if-is_out.false) applied
    c.put_name.new.table c.put_new.new.news c.put_new.result
    (c.in_ok-put_name.ensures
    ∙ ap (λ (v : List ℕ). insert_entry g.K.PartialEq.eq c.args.table.now c.args.key.now v) c.in_ok-clone.ensures.cases)
    c.put_new.ensures
