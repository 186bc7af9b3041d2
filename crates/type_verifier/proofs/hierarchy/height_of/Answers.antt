-- Answers of `height_of`: what its calls ask for, and what it promises.
use Rattle.std.proofs.Common.{length, ◌∙◌, arith}
use Rattle.type_verifier.proofs.Climbing.{count_low, counted_none}
use Rattle.type_verifier.proofs.hierarchy.height_of.Goals as goal

pub overflow_add-height : goal.overflow_add-height
overflow_add-height c =
    let low = count_low c.args.set.now c.args.class c.loop.height (length c.loop.iterator') c.loop.invariant in
    omega (arith, low)

pub loop-init : goal.loop-init
loop-init c =
    counted_none c.args.set.now c.args.class c.into_iter-iterator.result
    (c.into_iter-iterator.ensures.into_iter_gives ∙ c.of-items.ensures.are)
