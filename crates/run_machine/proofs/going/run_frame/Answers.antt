-- Answers of `run_frame`: what its calls ask for, and what it promises.
use Rattle.std.proofs.Common.{◌≡◌, ◌-◌, arith, suc}
use Rattle.run_machine.specs.States.{program, waits_of, whole}
use Rattle.run_machine.proofs.Runs.{without_code}
use Rattle.run_machine.proofs.going.run_frame.Goals as goal
use Rattle.run_steps.specs.Frames.{body_of}

pub returns-in-None-clause-leads : goal.returns-in-None-clause-leads
returns-in-None-clause-leads g c =
    let one : c.args.steps ≡ suc (c.args.steps - 1) = omega (arith, c.requires) in
    without_code (program (g.S.Shapes.shape c.args.shapes.now) (g.S.Shapes.code_of c.args.shapes.now))
    (whole (g.S.Shapes.shape c.args.shapes.now) c.args.rest.now) (waits_of c.args.rest.now.waits)
    c.args.frame.method
    (body_of c.args.frame.body) c.args.steps (c.args.steps - 1) one c.in-None.ensures
