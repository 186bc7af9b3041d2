use Rattle.std.specs.Option.{unwrap_or}
use Rattle.pair_edits.proofs.StepByStep.{IsSoFar}
use Rattle.pair_edits.proofs.after.after_steps.Given as goal

abbrev pub invariant-loop-step : goal.invariant-loop-step
invariant-loop-step l = IsSoFar l.steps l.code l.step-index (unwrap_or l.left l.code)
