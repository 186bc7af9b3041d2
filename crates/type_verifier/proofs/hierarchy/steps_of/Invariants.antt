use Rattle.std.proofs.Common.{◌≡◌, length}
use Rattle.type_verifier.specs.bodies.Steps.{AreSteps}
use Rattle.type_verifier.proofs.hierarchy.steps_of.Given as goal

abbrev pub invariant-loop-number : goal.invariant-loop-number
invariant-loop-number l = record {
  count : length l.steps.items ≡ length l.set;
  steps : AreSteps l.set l.steps.items;
}
