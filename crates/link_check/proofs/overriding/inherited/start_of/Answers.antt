-- Answers of `start_of`: what its calls ask for, and what it promises.
use Rattle.std.proofs.Common.{sym, ◌∙◌, subst, arith}
use Rattle.link_check.specs.bodies.Inherited.{IsStart}
use Rattle.link_check.proofs.Inheriting.{start_above, start_super}
use Rattle.link_check.proofs.overriding.inherited.start_of.Goals as goal

pub returns-in-Some : goal.returns-in-Some
returns-in-Some c =
    subst (IsStart c.args.set.now c.args.number) (sym c.start_in.ensures)
    (start_above c.args.set.now c.has_ranks.ensures c.args.known.now c.args.number c.in-Some.superclass
    c.super_of-above.result (omega (arith, c.len-count.ensures))
    c.requires.there c.requires.known c.super_of-above.ensures c.in-Some.ensures
    (sym c.is_plain_in.ensures ∙ c.if-is_plain_in.true))

pub returns-in_default : goal.returns-in_default
returns-in_default c =
    start_super c.args.set.now c.has_ranks.ensures c.args.number
    (omega (arith, c.len-count.ensures)) c.requires.there c.super_of-above.result
    c.super_of-above.ensures

pub returns-in_default-2 : goal.returns-in_default-2
returns-in_default-2 c =
    start_super c.args.set.now c.has_ranks.ensures c.args.number
    (omega (arith, c.len-count.ensures)) c.requires.there c.super_of-above.result
    c.super_of-above.ensures
