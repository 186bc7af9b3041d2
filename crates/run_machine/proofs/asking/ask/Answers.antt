-- Answers of `ask`: what its calls ask for, and what it promises.
use Rattle.std.proofs.Common.{◌≡◌}
use Rattle.std.proofs.lemmas.Result.{IfOk-weaker}
use Rattle.jvm_model.specs.Requests.{answer}
use Rattle.jvm_model.specs.State.{Body}
use Rattle.jvm_model.specs.Step.{on_answer}
use Rattle.run_machine.specs.States.{state_at, waits_of, whole}
use Rattle.run_machine.specs.bodies.Asked.{Asks}
use Rattle.run_machine.proofs.Answering.{plain}
use Rattle.run_steps.specs.Frames.{body_of}
use Rattle.run_steps.specs.Outcomes.{request_of}
use Rattle.run_machine.proofs.asking.ask.Goals as goal

pub returns-in-GetStatic : goal.returns-in-GetStatic
returns-in-GetStatic g c = rw c.in-GetStatic.is c.get_static.ensures

pub returns-in-PutStatic : goal.returns-in-PutStatic
returns-in-PutStatic g c = rw c.in-PutStatic.is c.put_static.ensures

pub returns-in-CallStatic : goal.returns-in-CallStatic
returns-in-CallStatic g c = rw c.in-CallStatic.is c.call_static.ensures

pub returns-in-New : goal.returns-in-New
returns-in-New g c = rw c.in-New.is c.new.ensures

pub returns-in_default : goal.returns-in_default
returns-in_default g c = IfOk-weaker _
    (λ k. (b : Body) → state_at (g.S.Shapes.shape c.args.shapes.now) c.ask_other.new.rest k
    ≡ on_answer (g.S.Shapes.shape c.args.shapes.now) (whole (g.S.Shapes.shape c.args.shapes.now) c.args.rest.now)
    c.args.frame.method b (body_of c.args.frame.body) (waits_of c.args.rest.now.waits)
    (answer (g.S.Shapes.shape c.args.shapes.now) c.args.frame.method.class
    (whole (g.S.Shapes.shape c.args.shapes.now) c.args.rest.now) (request_of c.args.request)))
    (λ k. Asks (g.S.Shapes.shape c.args.shapes.now) c.args.rest.now c.ask_other.new.rest k c.args.frame c.args.request)
    (λ k h b w. h (body_of b))
    (c.ask_other.ensures (plain c.args.request c.in_default.not-GetStatic c.in_default.not-PutStatic
    c.in_default.not-CallStatic c.in_default.not-New))
