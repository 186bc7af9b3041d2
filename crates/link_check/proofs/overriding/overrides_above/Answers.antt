-- Answers of `overrides_above`: what its calls ask for, and what it promises.
use Rattle.std.proofs.Common.{◌≡◌, Bool, true, false, ◌||◌, ◌&&◌, refl, sym, ◌∙◌}
use Rattle.class_pool.specs.Found.{same_member}
use Rattle.class_pool.specs.Selection.{may_be_overridden, may_override}
use Rattle.link_check.specs.bodies.Overriding.{alike_from, has_open_override}
use Rattle.link_check.proofs.OverridingLaws.{overridden_below}
use Rattle.link_check.proofs.overriding.overrides_above.Goals as goal

at_same : (s mo xa op : Bool) → s ≡ true → s ≡ (s || (mo && (xa || op)))
at_same true mo xa op is = refl
at_same false mo xa op is = absurd cc

at_may_be : (s mo xa op : Bool) → s ≡ false → mo ≡ true → xa ≡ true → xa ≡ (s || (mo && (xa || op)))
at_may_be true mo xa op other may is = absurd cc
at_may_be false false xa op other may is = absurd cc
at_may_be false true false op other may is = absurd cc
at_may_be false true true op other may is = refl

at_open : (s mo xa op : Bool) → s ≡ false → mo ≡ true → xa ≡ false → op ≡ (s || (mo && (xa || op)))
at_open true mo xa op other may is = absurd cc
at_open false false xa op other may is = absurd cc
at_open false true true op other may is = absurd cc
at_open false true false op other may is = refl

at_none : (s mo xa op : Bool) → s ≡ false → mo ≡ false → mo ≡ (s || (mo && (xa || op)))
at_none true mo xa op other may = absurd cc
at_none false true xa op other may = absurd cc
at_none false false xa op other may = refl

pub returns-then-is_same : goal.returns-then-is_same
returns-then-is_same c =
    c.is_same.ensures
    ∙ at_same _ (may_override c.args.set.now c.args.m.now)
    (may_be_overridden c.args.set.now c.args.m.now.class c.args.above.now)
    (has_open_override c.args.set.now c.args.above.now (alike_from c.args.set.now c.args.above.now c.args.m.now.class))
    (sym c.is_same.ensures ∙ c.if-is_same.true)
    ∙ sym (overridden_below c.args.set.now c.args.above.now c.args.m.now c.requires.own c.requires.alike
    c.requires.below)

pub returns-then-may_be_overridden : goal.returns-then-may_be_overridden
returns-then-may_be_overridden c =
    c.may_be_overridden.ensures
    ∙ at_may_be (same_member c.args.m.now c.args.above.now) (may_override c.args.set.now c.args.m.now)
    (may_be_overridden c.args.set.now c.args.m.now.class c.args.above.now)
    (has_open_override c.args.set.now c.args.above.now (alike_from c.args.set.now c.args.above.now c.args.m.now.class))
    (sym c.is_same.ensures ∙ c.if-is_same.false)
    (sym c.may_override.ensures ∙ c.if-may_override.true)
    (sym c.may_be_overridden.ensures ∙ c.if-may_be_overridden.true)
    ∙ sym (overridden_below c.args.set.now c.args.above.now c.args.m.now c.requires.own c.requires.alike
    c.requires.below)

pub returns-else-may_be_overridden : goal.returns-else-may_be_overridden
returns-else-may_be_overridden c =
    c.has_open_override.ensures
    ∙ at_open (same_member c.args.m.now c.args.above.now) (may_override c.args.set.now c.args.m.now)
    (may_be_overridden c.args.set.now c.args.m.now.class c.args.above.now)
    (has_open_override c.args.set.now c.args.above.now (alike_from c.args.set.now c.args.above.now c.args.m.now.class))
    (sym c.is_same.ensures ∙ c.if-is_same.false)
    (sym c.may_override.ensures ∙ c.if-may_override.true)
    (sym c.may_be_overridden.ensures ∙ c.if-may_be_overridden.false)
    ∙ sym (overridden_below c.args.set.now c.args.above.now c.args.m.now c.requires.own c.requires.alike
    c.requires.below)

pub returns-else-may_override : goal.returns-else-may_override
returns-else-may_override c =
    c.may_override.ensures
    ∙ at_none (same_member c.args.m.now c.args.above.now) (may_override c.args.set.now c.args.m.now)
    (may_be_overridden c.args.set.now c.args.m.now.class c.args.above.now)
    (has_open_override c.args.set.now c.args.above.now (alike_from c.args.set.now c.args.above.now c.args.m.now.class))
    (sym c.is_same.ensures ∙ c.if-is_same.false)
    (sym c.may_override.ensures ∙ c.if-may_override.false)
    ∙ sym (overridden_below c.args.set.now c.args.above.now c.args.m.now c.requires.own c.requires.alike
    c.requires.below)
