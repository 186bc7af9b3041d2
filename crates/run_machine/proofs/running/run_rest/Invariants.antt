use Rattle.std.proofs.Common.{◌≡◌}
use Rattle.jvm_model.specs.Step.{run}
use Rattle.run_machine.specs.States.{program, state_at}
use Rattle.run_machine.proofs.running.run_rest.Given as goal

abbrev pub invariant-loop-left : goal.invariant-loop-left
invariant-loop-left g l = run (program (g.S.Shapes.shape l.shapes) (g.S.Shapes.code_of l.shapes))
    (state_at (g.S.Shapes.shape l.shapes) l.rest l.control) l.left
    ≡ run (program (g.S.Shapes.shape l.shapes) (g.S.Shapes.code_of l.shapes))
    (state_at (g.S.Shapes.shape l.shapes) l.fn.rest l.fn.control) l.steps

abbrev pub decreases-loop-left : goal.decreases-loop-left
decreases-loop-left g l = l.left
