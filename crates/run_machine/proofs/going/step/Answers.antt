-- Answers of `step`: what its calls ask for, and what it promises.
use Rattle.std.proofs.Common.{◌≡◌, ◌∙◌, ap, sym}
use Rattle.std.proofs.lemmas.Result.{IfOk-weaker}
use Rattle.jvm_model.specs.Local.{local}
use Rattle.jvm_model.specs.Requests.{answer}
use Rattle.jvm_model.specs.State.{Body as Standing}
use Rattle.jvm_model.specs.Step.{on_answer, on_local}
use Rattle.run_machine.specs.States.{state_at, waits_of, whole}
use Rattle.run_machine.specs.bodies.Asked.{Asks}
use Rattle.run_machine.specs.bodies.Going.{going_to}
use Rattle.run_machine.proofs.Bodies.{without}
use Rattle.run_machine.proofs.going.step.Goals as goal
use Rattle.run_steps.specs.Frames.{body_of}
use Rattle.run_steps.specs.Outcomes.{request_of}

pub returns-in-Wants-clause-does : goal.returns-in-Wants-clause-does
returns-in-Wants-clause-does g c =
    let does = rw c.in-Wants.is at c.in_ok-local.ensures in
    IfOk-weaker _
    (λ k. Asks (g.S.Shapes.shape c.args.shapes.now) c.args.rest.now c.step_asking.new.rest (going_to k)
    (record c.args.frame { body = c.local.new.body }) c.in-Wants.request)
    (λ k. state_at (g.S.Shapes.shape c.args.shapes.now) c.step_asking.new.rest (going_to k)
    ≡ on_local (g.S.Shapes.shape c.args.shapes.now) (whole (g.S.Shapes.shape c.args.shapes.now) c.args.rest.now)
    c.args.frame.method (body_of c.args.frame.body) (waits_of c.args.rest.now.waits)
    (local c.args.code.now (body_of c.args.frame.body)))
    (λ k h. h c.args.frame.body does.1
    ∙ ap (λ (x : Standing). on_answer (g.S.Shapes.shape c.args.shapes.now)
    (whole (g.S.Shapes.shape c.args.shapes.now) c.args.rest.now) c.args.frame.method (body_of c.args.frame.body) x
    (waits_of c.args.rest.now.waits)
    (answer (g.S.Shapes.shape c.args.shapes.now) c.args.frame.method.class
    (whole (g.S.Shapes.shape c.args.shapes.now) c.args.rest.now) (request_of c.in-Wants.request)))
    (sym (without c.args.frame.body c.local.new.body does.1.0 does.1.1))
    ∙ ap (on_local (g.S.Shapes.shape c.args.shapes.now) (whole (g.S.Shapes.shape c.args.shapes.now) c.args.rest.now)
    c.args.frame.method (body_of c.args.frame.body) (waits_of c.args.rest.now.waits)) does.0)
    c.step_asking.ensures.asks

pub returns-in_ok-toss-in-Tosses-clause-does : goal.returns-in_ok-toss-in-Tosses-clause-does
returns-in_ok-toss-in-Tosses-clause-does g c =
    let does = rw c.in-Tosses.is at c.in_ok-local.ensures in
    c.in_ok-toss-in-Tosses.ensures (g.S.Shapes.shape c.args.shapes.now) c.args.frame.body does.1
    ∙ ap (on_local (g.S.Shapes.shape c.args.shapes.now) (whole (g.S.Shapes.shape c.args.shapes.now) c.args.rest.now)
    c.args.frame.method (body_of c.args.frame.body) (waits_of c.args.rest.now.waits)) does.0
