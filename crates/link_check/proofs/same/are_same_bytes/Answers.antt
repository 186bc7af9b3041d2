-- Answers of `are_same_bytes`: what its calls ask for, and what it promises.
use Rattle.std.proofs.Common.{rules}
use Rattle.link_check.proofs.EndsMeet.{ends_meet}
use Rattle.link_check.proofs.same.are_same_bytes.Goals as goal

pub returns-then-has_same_first_half : goal.returns-then-has_same_first_half
returns-then-has_same_first_half c alike =
    ends_meet 4 c.args.one.now c.args.other.now c.if-one-other.false (search rules) (search rules)
    (c.has_same_first_half.ensures c.if-has_same_first_half.true) (c.has_same_last_half.ensures alike)

pub returns-then-has_same_first_word : goal.returns-then-has_same_first_word
returns-then-has_same_first_word c alike =
    ends_meet 8 c.args.one.now c.args.other.now c.if-one-other.false (search rules) (search rules)
    (c.has_same_first_word.ensures c.if-has_same_first_word.true) (c.has_same_last_word.ensures alike)
