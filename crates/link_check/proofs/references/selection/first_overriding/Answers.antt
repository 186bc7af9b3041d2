-- Answers of `first_overriding`: what its calls ask for, and what it promises.
use Rattle.std.proofs.Common.{sym, ◌∙◌}
use Rattle.link_check.specs.bodies.Overriding.{alike_from}
use Rattle.link_check.proofs.OverridingLaws.{first_found, first_none}
use Rattle.link_check.proofs.references.selection.first_overriding.Goals as goal

pub returns-then-not-is_declared_from-clause-is : goal.returns-then-not-is_declared_from-clause-is
returns-then-not-is_declared_from-clause-is c =
    first_none c.args.set.now c.args.m.now (alike_from c.args.set.now c.args.m.now c.args.class.now)
    (sym c.is_declared_from.ensures ∙ c.if-not-is_declared_from.true)

pub returns-clause-is : goal.returns-clause-is
returns-clause-is c =
    c.nearest.ensures.is
    ∙ first_found c.args.set.now c.args.m.now
    (alike_from c.args.set.now c.args.m.now c.args.class.now) c.is_opened.result
    (sym c.is_declared_from.ensures ∙ c.if-not-is_declared_from.false) c.is_opened.ensures
