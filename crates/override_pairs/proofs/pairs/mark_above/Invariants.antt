use Rattle.item_numbers.specs.bodies.Tops.{AreAbove}
use Rattle.override_pairs.specs.bodies.Above.{AreSteps}
use Rattle.override_pairs.proofs.pairs.mark_above.Given as goal

abbrev pub invariant-loop-step : goal.invariant-loop-step
invariant-loop-step l = record {
  below : AreAbove l.set l.below.items;
  steps : AreSteps l.set l.below.items l.steps.items;
}
