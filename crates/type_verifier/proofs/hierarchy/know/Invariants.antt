use Rattle.std.proofs.Common.{◌≡◌, length}
use Rattle.type_verifier.specs.bodies.Steps.{AreSteps}
use Rattle.type_verifier.proofs.hierarchy.know.Given as goal

abbrev pub invariant-loop-at : goal.invariant-loop-at
invariant-loop-at l = record {
  count : length l.steps.items ≡ length l.set;
  steps : AreSteps l.set l.steps.items;
}
