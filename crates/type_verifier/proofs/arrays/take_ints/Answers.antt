-- Answers of `take_ints`: what its calls ask for, and what it promises.
use Rattle.std.proofs.Common.{replicate}
use Rattle.class_model.specs.declared.frame.VType.TheVariants as vtype
use Rattle.type_verifier.specs.Effects.{all_popped}
use Rattle.type_verifier.specs.Rules.{Assignable}
use Rattle.type_verifier.proofs.Popping.{times_more}
use Rattle.type_verifier.proofs.arrays.take_ints.Goals as goal

pub loop-preserved : goal.loop-preserved
loop-preserved c =
    times_more c.args.set.now (Assignable vtype.Int) c.args.count c.loop.counter c.loop.frame c.take_number.new.frame
    (all_popped c.args.set.now (replicate c.args.count (Assignable vtype.Int)) c.args.frame.now)
    c.loop-test.true c.in_ok-take_number.ensures c.loop.invariant
