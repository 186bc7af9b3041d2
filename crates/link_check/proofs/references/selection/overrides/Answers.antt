-- Answers of `overrides`: what its calls ask for, and what it promises.
use Rattle.std.proofs.Common.{sym, ◌∙◌}
use Rattle.link_check.proofs.OverridingLaws.{above_first, class_below, false_true, overridden_among, overridden_none}
use Rattle.link_check.proofs.OverridingLaws.{own_first}
use Rattle.link_check.proofs.references.selection.overrides.Goals as goal

pub returns-then-not-is_first_like : goal.returns-then-not-is_first_like
returns-then-not-is_first_like c =
    overridden_none c.args.set.now c.args.above c.args.m
    (λ first. false_true _ c.if-not-is_first_like.true (c.is_first_like.ensures.1 first))

pub returns-else-is_declared_from : goal.returns-else-is_declared_from
returns-else-is_declared_from c =
    c.if-is_declared_from.false
    ∙ sym (overridden_among c.args.set.now c.args.above c.args.m
    (sym c.is_declared_from.ensures ∙ c.if-is_declared_from.false))

pub overrides_above-requires-clause-own : goal.overrides_above-requires-clause-own
overrides_above-requires-clause-own c = own_first c.args.set.now c.args.above c.args.m
    (c.is_first_like.ensures.0 c.if-not-is_first_like.false)

pub overrides_above-requires-clause-alike : goal.overrides_above-requires-clause-alike
overrides_above-requires-clause-alike c =
    above_first c.args.set.now c.args.above c.args.m (c.is_first_like.ensures.0 c.if-not-is_first_like.false)
    (sym c.is_declared_from.ensures ∙ c.if-is_declared_from.true)

pub overrides_above-requires-clause-below : goal.overrides_above-requires-clause-below
overrides_above-requires-clause-below c =
    class_below c.args.set.now c.args.above c.args.m (c.is_first_like.ensures.0 c.if-not-is_first_like.false)
    (sym c.is_declared_from.ensures ∙ c.if-is_declared_from.true)
