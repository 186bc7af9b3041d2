-- Answers of `mark_named`: what its calls ask for, and what it promises.
use Rattle.std.proofs.Common.{ap, arith, length}
use Rattle.keep_match.proofs.MarkLaw.{marking_none, named_all, named_more, rows_stay, value_there}
use Rattle.keep_match.proofs.NameLaw.{get_below, named_accepted}
use Rattle.keep_match.proofs.seeds.mark_named.Goals as goal

pub loop-filter-init : goal.loop-filter-init
loop-filter-init c = (marking_none _ _ _, λ j n f lt. absurd (omega arith))

pub mark_pattern-requires-clause-rows : goal.mark_pattern-requires-clause-rows
mark_pattern-requires-clause-rows c =
    rows_stay c.args.set.now c.args.keep.now c.args.rows.now.items c.loop-filter.rows.items c.requires.rows
    c.loop-filter.invariant.0

pub mark_pattern-requires-clause-accepted : goal.mark_pattern-requires-clause-accepted
mark_pattern-requires-clause-accepted c =
    let at = value_there c.as_slice-filter-items.result.now c.args.keep.now.spec.names c.loop-filter.filter-index
    c.filter-item.result c.as_slice-filter-items.ensures c.loop-filter-test.true c.filter-item.is in
    λ n d is same. named_accepted c.args.keep.now.spec.names c.requires.literal d
    (c.requires.names.texts n d (get_below c.args.set.now n d is) is) c.loop-filter.filter-index c.filter-item.result
    at same

pub loop-filter-preserved : goal.loop-filter-preserved
loop-filter-preserved c =
    let at = value_there c.as_slice-filter-items.result.now c.args.keep.now.spec.names c.loop-filter.filter-index
    c.filter-item.result c.as_slice-filter-items.ensures c.loop-filter-test.true c.filter-item.is in
    named_more c.args.set.now c.args.keep.now c.args.rows.now.items
    c.loop-filter.rows.items _ c.loop-filter.filter-index
    c.filter-item.result c.requires.rows.count at c.loop-filter.invariant.0 c.loop-filter.invariant.1
    c.mark_pattern.ensures

pub returns : goal.returns
returns c =
    named_all c.args.set.now c.args.keep.now c.args.rows.now.items c.loop-filter.rows.items c.args.names.now
    c.requires.keeps c.requires.literal c.requires.names c.loop-filter.invariant.0
    (λ j n f lt. c.loop-filter.invariant.1 j n f (omega (arith, ap length c.as_slice-filter-items.ensures)))
