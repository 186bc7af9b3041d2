-- Answers of `note_rows`: what its calls ask for, and what it promises.
use Rattle.std.proofs.Common.{◌++◌, List, subst, take}
use Rattle.std.proofs.lemmas.List.{get_or_default}
use Rattle.method_places.specs.bodies.Nearest.{AreNoted}
use Rattle.method_places.specs.declared.methods.InstanceMethod.{InstanceMethod}
use Rattle.method_places.proofs.Noting.{rows_more}
use Rattle.method_places.proofs.nearest.note_rows.Goals as goal

pub loop-row-preserved : goal.loop-row-preserved
loop-row-preserved c = record {
  noted = λ before so_far.
      subst (λ (t : List InstanceMethod). AreNoted c.args.stamp t c.note_row.new.notes.items)
      (rows_more before c.args.rows.now c.loop-row.row-index _ c.loop-row-test.true
      (get_or_default c.args.rows.now c.loop-row.row-index _ _ c.loop-row-test.true))
      (c.note_row.ensures.noted (before ++ take c.loop-row.row-index c.args.rows.now)
      (c.loop-row.invariant.noted before so_far));
  stamps = c.note_row.ensures.stamps;
}
