-- Answers of `slot_marks`: what its calls ask for, and what it promises.
use Rattle.std.proofs.Common.{◌≡◌, ◌≤◌, ◌∙◌, length, ap, arith}
use Rattle.pass_const.proofs.Marking.{spread_length}
use Rattle.pass_const.proofs.slots.slot_marks.Goals as goal

pub returns-clause-bound : goal.returns-clause-bound
returns-clause-bound c =
    let long : length c.mark_chosen.result.items ≡ length c.in_ok-marks.marks.items =
    ap length c.mark_chosen.ensures
    ∙ spread_length c.args.code.now c.args.chosen.now 0 c.args.code.now.ins
    c.in_ok-marks.marks.items in
    let len = c.in_ok-marks.ensures.len in
    let bound = c.slot_count.ensures.bound in
    omega (arith, long, len, bound)
