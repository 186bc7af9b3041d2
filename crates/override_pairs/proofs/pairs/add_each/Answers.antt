-- Answers of `add_each`: what its calls ask for, and what it promises.
use Rattle.std.proofs.Common.{arith, get_or}
use Rattle.std.proofs.lemmas.List.{get_or_default}
use Rattle.override_pairs.proofs.CountedPairs.{pairs_all, pairs_more}
use Rattle.override_pairs.proofs.pairs.add_each.Goals as goal

pub loop-above-preserved : goal.loop-above-preserved
loop-above-preserved c =
    pairs_more c.args.receiver.now.numbered.now.set.now c.args.number c.args.receiver.now.class c.args.supers.now
    c.loop-above.above-index (get_or c.args.supers.now c.loop-above.above-index 0)
    c.args.pairs.now c.loop-above.pairs _ c.loop-above-test.true
    (get_or_default c.args.supers.now c.loop-above.above-index 0 _ c.loop-above-test.true) c.loop-above.invariant
    c.in_ok-add_of.ensures

pub returns : goal.returns
returns c =
    pairs_all c.args.receiver.now.numbered.now.set.now c.args.number c.args.receiver.now.class c.args.supers.now
    c.loop-above.above-index c.args.pairs.now c.loop-above.pairs (omega (arith, c.loop-above-test.false))
    c.loop-above.invariant
