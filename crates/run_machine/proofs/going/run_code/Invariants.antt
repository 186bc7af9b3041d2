use Rattle.std.proofs.Common.{◌≡◌, ◌≤◌}
use Rattle.jvm_model.specs.Step.{run}
use Rattle.run_machine.specs.States.{program, state_at}
use Rattle.run_machine.specs.declared.state.Control.TheVariants as doing
use Rattle.run_machine.proofs.going.run_code.Given as goal

abbrev pub invariant-loop-left : goal.invariant-loop-left
invariant-loop-left g l = record {
  within : l.left ≤ l.steps;
  method : l.frame.method ≡ l.fn.frame.method;
  leads : run (program (g.S.Shapes.shape l.shapes) (g.S.Shapes.code_of l.shapes))
      (state_at (g.S.Shapes.shape l.shapes) l.rest (doing.Runs l.frame)) l.left
      ≡ run (program (g.S.Shapes.shape l.shapes) (g.S.Shapes.code_of l.shapes))
      (state_at (g.S.Shapes.shape l.shapes) l.fn.rest (doing.Runs l.fn.frame)) l.steps;
}

abbrev pub decreases-loop-left : goal.decreases-loop-left
decreases-loop-left g l = l.left
