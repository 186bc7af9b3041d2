-- Answers of `raise`: what its calls ask for, and what it promises.
use Rattle.std.proofs.Common.{◌-◌, arith, length, refl}
use Rattle.item_numbers.proofs.Looking.{top_put}
use Rattle.item_numbers.proofs.tops.raise.Goals as goal

pub loop-at-preserved : goal.loop-at-preserved
loop-at-preserved c =
    let there = c.requires.there (length c.args.numbers.now - 1 - c.loop-at.at) 0
    (omega (arith, c.loop-at-test.true)) in
    top_put c.args.set.now c.loop-at.tops.items _ _ c.top_of-top.result c.loop-at.invariant there c.top_of-top.ensures
    refl
