-- Answers of `is_declared_from`: what its calls ask for, and what it promises.
use Rattle.std.proofs.Common.{sym, ◌∙◌}
use Rattle.link_check.proofs.OverridingLaws.{alike_above, alike_none, false_true}
use Rattle.link_check.proofs.overriding.is_declared_from.Goals as goal

pub returns-then-is_first_like : goal.returns-then-is_first_like
returns-then-is_first_like c =
    c.is_class_below.ensures
    ∙ sym (alike_above c.args.set.now c.args.above.now c.args.class.now
    (c.is_first_like.ensures.0 c.if-is_first_like.true))

pub returns-else-is_first_like : goal.returns-else-is_first_like
returns-else-is_first_like c =
    c.if-is_first_like.false
    ∙ alike_none c.args.set.now c.args.above.now c.args.class.now
    (λ first. false_true _ c.if-is_first_like.false (c.is_first_like.ensures.1 first))
