-- Answers of `mark_each`: what its calls ask for, and what it promises.
use Rattle.std.proofs.Common.{arith}
use Rattle.keep_match.proofs.MarkLaw.{each_all, each_more, marking_none, rows_stay}
use Rattle.keep_match.proofs.seeds.mark_each.Goals as goal

pub loop-number-init : goal.loop-number-init
loop-number-init c = (marking_none _ _ _, λ n lt. absurd (omega arith))

pub mark_number-requires-clause-rows : goal.mark_number-requires-clause-rows
mark_number-requires-clause-rows c =
    rows_stay c.args.set.now c.args.keep.now c.args.rows.now.items c.loop-number.rows.items c.requires.rows
    c.loop-number.invariant.0

pub loop-number-preserved : goal.loop-number-preserved
loop-number-preserved c =
    each_more c.args.set.now c.args.keep.now c.args.rows.now.items c.loop-number.rows.items _ c.loop-number.number
    c.requires.rows.count c.loop-number.invariant.0 c.loop-number.invariant.1 c.mark_number.ensures

pub returns : goal.returns
returns c =
    each_all c.args.set.now c.args.keep.now c.args.rows.now.items c.loop-number.rows.items c.loop-number.number
    (omega arith) c.loop-number.invariant.0 c.loop-number.invariant.1
