-- Answers of `run_code`: what its calls ask for, and what it promises.
use Rattle.std.proofs.Common.{◌≡◌, ◌∙◌, ◌-◌, arith, suc}
use Rattle.run_machine.specs.States.{program, state_at, waits_of, whole}
use Rattle.run_machine.specs.declared.state.Control.TheVariants as doing
use Rattle.run_machine.proofs.Runs.{instructed}
use Rattle.run_machine.proofs.going.run_code.Goals as goal
use Rattle.run_steps.specs.Frames.{body_of}

pub returns-in-To-clause-leads : goal.returns-in-To-clause-leads
returns-in-To-clause-leads g c =
    let one : c.loop-left.left ≡ suc (c.loop-left.left - 1) = omega (arith, c.loop-left-test.true) in
    instructed (program (g.S.Shapes.shape c.args.shapes.now) (g.S.Shapes.code_of c.args.shapes.now))
    (whole (g.S.Shapes.shape c.args.shapes.now) c.loop-left.rest) (waits_of c.loop-left.rest.waits)
    c.loop-left.frame.method
    c.args.frame.method (body_of c.loop-left.frame.body) c.args.code.now
    (state_at (g.S.Shapes.shape c.args.shapes.now) c.step.new.rest c.in-To.control) c.loop-left.left
    (c.loop-left.left - 1) one c.requires.code
    c.loop-left.invariant.method (rw c.in-To.is at c.in_ok-next.ensures.does)
    ∙ c.loop-left.invariant.leads

pub loop-left-preserved : goal.loop-left-preserved
loop-left-preserved g c =
    let one : c.loop-left.left ≡ suc (c.loop-left.left - 1) = omega (arith, c.loop-left-test.true) in
    let does = rw c.in-On.is at c.in_ok-next.ensures.does in
    let method = rw c.in-On.is at c.in_ok-next.ensures.method in
    record {
      within = omega (arith, c.loop-left.invariant.within);
      method = method ∙ c.loop-left.invariant.method;
      leads = instructed (program (g.S.Shapes.shape c.args.shapes.now) (g.S.Shapes.code_of c.args.shapes.now))
          (whole (g.S.Shapes.shape c.args.shapes.now) c.loop-left.rest) (waits_of c.loop-left.rest.waits)
          c.loop-left.frame.method
          c.args.frame.method (body_of c.loop-left.frame.body) c.args.code.now
          (state_at (g.S.Shapes.shape c.args.shapes.now) c.step.new.rest (doing.Runs c.in-On.next)) c.loop-left.left
          (c.loop-left.left - 1) one
          c.requires.code c.loop-left.invariant.method does
          ∙ c.loop-left.invariant.leads;
    }

pub returns-clause-leads : goal.returns-clause-leads
returns-clause-leads g c = c.loop-left.invariant.leads
