-- Answers of `lesser`: what its calls ask for, and what it promises.
use Rattle.std.proofs.Common.{◌∙◌, sym, arith}
use Rattle.link_check.proofs.Least.{lesser_first, lesser_none, lesser_other, lesser_second}
use Rattle.link_check.proofs.rules.kind_order.lesser.Goals as goal

pub returns-in_default : goal.returns-in_default
returns-in_default c = λ a b p q. lesser_none a b c.args.other (sym c.in_default.is ∙ p) q

pub returns-in-Some-other : goal.returns-in-Some-other
returns-in-Some-other c =
    λ a b p q. lesser_second a b c.in-Some.kind c.in-Some-other.other (omega (arith, c.rank.ensures))
    (sym c.in-Some.is ∙ p) (sym c.in-Some-other.is ∙ q)

pub returns-in_default-other : goal.returns-in_default-other
returns-in_default-other c =
    λ a b p q. lesser_first a b c.in-Some.kind c.in-Some-other.other (omega (arith, c.rank.ensures))
    (sym c.in-Some.is ∙ p) (sym c.in-Some-other.is ∙ q)

pub returns-in_default-other-2 : goal.returns-in_default-other-2
returns-in_default-other-2 c = λ a b p q. lesser_other a b c.in-Some.kind (sym c.in-Some.is ∙ p)
    (sym c.in_default-other.is ∙ q)
