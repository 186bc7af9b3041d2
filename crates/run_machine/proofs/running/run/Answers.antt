-- Answers of `run`: what its calls ask for, and what it promises.
use Rattle.std.proofs.Common.{◌∙◌, ap}
use Rattle.jvm_model.specs.Step.{run}
use Rattle.run_machine.specs.States.{program, state_at}
use Rattle.run_machine.specs.declared.state.Control.{Control}
use Rattle.run_machine.proofs.running.run.Goals as goal

pub returns : goal.returns
returns g c = c.in_ok-state.ensures
    ∙ ap (λ (k : Control). run (program (g.S.Shapes.shape c.args.shapes.now) (g.S.Shapes.code_of c.args.shapes.now))
    (state_at (g.S.Shapes.shape c.args.shapes.now) c.args.state.now.rest k) c.args.steps)
    c.replace-control.ensures.value
