-- Answers of `mark_all`: what its calls ask for, and what it promises.
use Rattle.std.proofs.Common.{sym}
use Rattle.keep_match.proofs.MarkLaw.{rows_wide, rules_more}
use Rattle.keep_match.proofs.seeds.mark_all.Goals as goal

pub mark_rows-requires-clause-rows : goal.mark_rows-requires-clause-rows
mark_rows-requires-clause-rows c = rows_wide c.args.set.now _ c.loop-keep.rows.items c.loop-keep.invariant

pub loop-keep-preserved : goal.loop-keep-preserved
loop-keep-preserved c =
    rules_more c.args.set.now c.args.keeps.now c.loop-keep.keep-index c.keep-item.result c.loop-keep.rows.items _
    c.loop-keep-test.true (sym c.keep-item.is) c.loop-keep.invariant c.in_ok-mark_rows.ensures
