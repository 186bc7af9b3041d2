-- Answers of `has_match`: what its calls ask for, and what it promises.
use Rattle.std.proofs.Common.{◌∙◌, false, sym, true}
use Rattle.keep_match.specs.Matches.{members_matched}
use Rattle.keep_match.proofs.RowLaw.{any_step}
use Rattle.keep_match.proofs.rows.has_match.Goals as goal

pub returns-then-matches_member : goal.returns-then-matches_member
returns-then-matches_member c =
    sym (any_step (members_matched c.args.spec.now c.args.class.now) c.loop-member.member true
    c.if-matches_member.ensures)
    ∙ c.loop-member.invariant

pub loop-member-preserved : goal.loop-member-preserved
loop-member-preserved c =
    sym (any_step (members_matched c.args.spec.now c.args.class.now) c.loop-member.member false
    c.if-matches_member.ensures)
    ∙ c.loop-member.invariant
