-- Answers of `free_rows`: what its calls ask for, and what it promises.
use Rattle.std.proofs.Common.{[]}
use Rattle.std.proofs.lemmas.List.{get_or_default}
use Rattle.override_pairs.specs.bodies.Free.{free_row}
use Rattle.item_numbers.proofs.Meeting.{optional_more}
use Rattle.override_pairs.proofs.free.free_rows.Goals as goal

pub loop-row-preserved : goal.loop-row-preserved
loop-row-preserved c =
    optional_more (free_row c.args.hidden.now) c.args.rows.now c.loop-row.row-index _ [] c.loop-row.free _
    c.loop-row-test.true (get_or_default c.args.rows.now c.loop-row.row-index _ _ c.loop-row-test.true)
    c.loop-row.invariant c.in_ok-add_free.ensures
