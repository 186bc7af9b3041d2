-- Answers of `note_row`: what its calls ask for, and what it promises.
use Rattle.std.proofs.Common.{Some, ◌∙◌, ap, arith, sym}
use Rattle.std.proofs.lemmas.Bool.{eq-eqb}
use Rattle.std.proofs.lemmas.Option.{slice_get-get_or}
use Rattle.method_places.proofs.Noting.{not_same, row_before, row_beyond, row_put}
use Rattle.method_places.proofs.nearest.note_row.Goals.{else-at-len-via-else-at-len}
use Rattle.method_places.proofs.nearest.note_row.Goals.{else-at-len-via-then-at-len+else-index-stamp}
use Rattle.method_places.proofs.nearest.note_row.Goals as goal

pub returns-then-index-stamp-clause-noted : goal.returns-then-index-stamp-clause-noted
returns-then-index-stamp-clause-noted c before so_far =
    row_put c.args.stamp c.args.notes.now.items c.args.row.now before so_far c.index.result.now
    (slice_get-get_or c.args.notes.now.items c.args.row.now.number c.index.result.now
    (omega (arith, c.if-at-len.true, c.len.ensures)) ∙ ap Some (sym c.index.ensures))
    (not_same c.index.result.now.stamp c.args.stamp c.if-index-stamp.true)

pub returns-else-at-len-clause-noted : goal.returns-else-at-len-clause-noted
returns-else-at-len-clause-noted c =
    elim c.else-at-len.branch [
      | else-at-len-via-then-at-len+else-index-stamp w ↦ λ before so_far. row_before c.args.stamp
          c.args.notes.now.items c.args.row.now before so_far w.index.result.now
          (slice_get-get_or c.args.notes.now.items c.args.row.now.number w.index.result.now
          (omega (arith, w.if-at-len.true, c.len.ensures)) ∙ ap Some (sym w.index.ensures))
          (eq-eqb w.index.result.now.stamp c.args.stamp w.if-index-stamp.false)
      | else-at-len-via-else-at-len w ↦ λ before so_far. row_beyond c.args.stamp c.args.notes.now.items c.args.row.now
          before so_far (omega (arith, w.if-at-len.false, c.len.ensures))
    ]
