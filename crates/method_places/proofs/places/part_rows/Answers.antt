-- Answers of `part_rows`: what its calls ask for, and what it promises.
use Rattle.std.proofs.Common.{[]}
use Rattle.std.proofs.lemmas.List.{get_or_default}
use Rattle.method_places.specs.bodies.Places.{part_row}
use Rattle.item_numbers.proofs.Meeting.{optional_more}
use Rattle.method_places.proofs.places.part_rows.Goals as goal

pub loop-row-preserved : goal.loop-row-preserved
loop-row-preserved c =
    optional_more (part_row c.args.packages.now c.args.keys.now c.args.part) c.args.rows.now c.loop-row.row-index _ []
    c.loop-row.placed _ c.loop-row-test.true
    (get_or_default c.args.rows.now c.loop-row.row-index _ _ c.loop-row-test.true) c.loop-row.invariant
    c.in_ok-add_placed.ensures
