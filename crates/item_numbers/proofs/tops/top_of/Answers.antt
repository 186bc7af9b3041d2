-- Answers of `top_of`: what its calls ask for, and what it promises.
use Rattle.std.proofs.Common.{arith, refl}
use Rattle.item_numbers.proofs.Looking.{top_above}
use Rattle.item_numbers.proofs.tops.top_of.Goals as goal

pub returns : goal.returns
returns c =
    top_above c.args.set.now c.has_ranks.ensures c.args.tops.now c.args.number c.in-Some.above
    c.superclass_number.result (omega (arith, c.len-count.ensures)) c.requires.there c.requires.tops
    c.superclass_number.ensures c.in-Some.is (c.if-not-is_blank.ensures refl)
