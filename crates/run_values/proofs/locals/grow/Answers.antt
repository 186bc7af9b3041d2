-- Answers of `grow`: what its calls ask for, and what it promises.
use Rattle.std.proofs.Common.{rules, ◌∙◌}
use Rattle.run_values.proofs.Cells.{slots_grown}
use Rattle.run_values.proofs.locals.grow.Goals as goal

pub loop-slots-preserved : goal.loop-slots-preserved
loop-slots-preserved c = record {
  within = search rules;
  same = rw c.in_ok-push.ensures.items (slots_grown _ ∙ c.loop-slots.invariant.same);
}
