-- Answers of `mark_range`: what its calls ask for, and what it promises.
use Rattle.std.proofs.Common.{◌∙◌, ◌+◌, ◌-◌, sym, ap, arith}
use Rattle.edit_legal.specs.Dropped.{taking}
use Rattle.edit_legal.proofs.Ranges.{taking_step}
use Rattle.edit_legal.proofs.marking.mark_range.Goals as goal

pub loop-preserved : goal.loop-preserved
loop-preserved c = (
  ap (taking (c.loop.at + 1) (c.args.count - (c.loop.counter + 1))) c.mark.ensures
      ∙ sym (taking_step c.loop.at c.args.count c.loop.counter c.loop.marks.items
      c.loop-test.true) ∙ c.loop.invariant.0,
  omega (arith, c.loop.invariant.1),
)
