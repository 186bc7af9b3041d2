-- Answers of `run_rest`: what its calls ask for, and what it promises.
use Rattle.std.proofs.Common.{◌≡◌, ◌∙◌, ap, arith, sym}
use Rattle.jvm_model.specs.Step.{run}
use Rattle.run_machine.specs.States.{program, state_at}
use Rattle.run_machine.proofs.Runs.{rests}
use Rattle.run_machine.proofs.running.run_rest.Goals as goal

pub returns-then-has_ended : goal.returns-then-has_ended
returns-then-has_ended g c =
    sym (rests (program (g.S.Shapes.shape c.args.shapes.now) (g.S.Shapes.code_of c.args.shapes.now))
    (state_at (g.S.Shapes.shape c.args.shapes.now) c.loop-left.rest c.loop-left.control) c.loop-left.left
    (sym c.has_ended.ensures ∙ c.if-has_ended.true))
    ∙ c.loop-left.invariant

pub loop-left-preserved : goal.loop-left-preserved
loop-left-preserved g c = c.in_ok-ran.ensures.leads ∙ c.loop-left.invariant

pub returns : goal.returns
returns g c =
    let none : c.loop-left.left ≡ 0 = omega (arith, c.loop-left-test.false) in
    sym (ap (run (program (g.S.Shapes.shape c.args.shapes.now) (g.S.Shapes.code_of c.args.shapes.now))
    (state_at (g.S.Shapes.shape c.args.shapes.now) c.loop-left.rest c.loop-left.control)) none)
    ∙ c.loop-left.invariant
