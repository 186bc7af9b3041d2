-- Answers of `step_below`: what its calls ask for, and what it promises.
use Rattle.std.proofs.Common.{refl, arith}
use Rattle.type_verifier.proofs.Climbing.{one_higher, step_super}
use Rattle.type_verifier.proofs.hierarchy.step_below.Goals as goal

pub returns : goal.returns
returns c =
    step_super c.args.set.now c.has_ranks.ensures (omega (arith, c.len-count.ensures)) c.args.number c.args.above
    c.far_above.result c.args.step _ c.requires.there c.requires.above c.requires.step c.far_above.ensures refl

pub overflow_add-result : goal.overflow_add-result
overflow_add-result c =
    let least = one_higher c.args.set.now _ c.args.step.height c.requires.step.height in
    omega (arith, least)
