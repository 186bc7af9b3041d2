-- Answers of `raise_libraries`: what its calls ask for, and what it promises.
use Rattle.std.proofs.Common.{◌-◌, arith, length, refl}
use Rattle.item_numbers.proofs.Looking.{library_top_put}
use Rattle.item_numbers.proofs.tops.raise_libraries.Goals as goal

pub loop-at-preserved : goal.loop-at-preserved
loop-at-preserved c =
    let there = c.requires.there (length c.args.numbers.now - 1 - c.loop-at.at) 0
    (omega (arith, c.loop-at-test.true)) in
    library_top_put c.args.set.now c.loop-at.tops.items _ _ c.library_top_of-top.result c.loop-at.invariant there
    c.library_top_of-top.ensures refl
