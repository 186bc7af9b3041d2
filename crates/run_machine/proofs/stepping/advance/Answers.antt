-- Answers of `advance`: what its calls ask for, and what it promises.
use Rattle.std.proofs.Common.{◌≡◌, ◌-◌, arith, suc}
use Rattle.run_machine.specs.States.{program, state_at}
use Rattle.run_machine.proofs.Keeping.{no_frame}
use Rattle.run_machine.proofs.Runs.{onward}
use Rattle.run_machine.proofs.stepping.advance.Goals as goal

pub next-requires : goal.next-requires
next-requires g c = no_frame c.args.control c.in_default.not-Runs

pub returns-in_ok-control-in_default-clause-leads : goal.returns-in_ok-control-in_default-clause-leads
returns-in_ok-control-in_default-clause-leads g c =
    let one : c.args.steps ≡ suc (c.args.steps - 1) = omega (arith, c.requires) in
    onward (program (g.S.Shapes.shape c.args.shapes.now) (g.S.Shapes.code_of c.args.shapes.now))
    (state_at (g.S.Shapes.shape c.args.shapes.now) c.args.rest.now c.args.control) _ c.args.steps (c.args.steps - 1)
    one c.in_ok-control-in_default.ensures
