-- Answers of `mark_row`: what its calls ask for, and what it promises.
use Rattle.std.proofs.Common.{◌∙◌, arith}
use Rattle.std.proofs.lemmas.List.{length-set}
use Rattle.keep_match.specs.bodies.Marks.{members_kept}
use Rattle.keep_match.proofs.RowLaw.{kept_length, next_length, row_more, row_starts}
use Rattle.keep_match.proofs.rows.mark_row.Goals as goal

pub loop-member-init : goal.loop-member-init
loop-member-init c = (
  row_starts c.args.row.now.items (members_kept c.args.specs.now c.args.class.now) (omega (arith, c.requires.width)),
  length-set _ _ _,
)

pub loop-member-preserved : goal.loop-member-preserved
loop-member-preserved c = (
  row_more c.args.row.now.items (members_kept c.args.specs.now c.args.class.now) c.loop-member.member _ _
      c.is_member_kept-is_kept.result c.loop-member.invariant.0
      (omega (arith, c.requires.width, kept_length c.args.specs.now c.args.class.now)) c.is_member_kept-is_kept.ensures
      c.mark_member.ensures,
  next_length _ _ _ c.is_member_kept-is_kept.result c.mark_member.ensures ∙ c.loop-member.invariant.1,
)
