-- Answers of `ask_other`: what its calls ask for, and what it promises.
use Rattle.std.proofs.Common.{◌≡◌, ◌∙◌, ℕ, List, ap}
use Rattle.std.proofs.lemmas.Result.{IfOk-weaker}
use Rattle.jvm_model.specs.Requests.{answer}
use Rattle.jvm_model.specs.State.{Body}
use Rattle.jvm_model.specs.Step.{on_answer}
use Rattle.run_heap.specs.Answers.{model_answer}
use Rattle.run_machine.specs.Inits.{init_at}
use Rattle.run_machine.specs.States.{state_at, waits_of, whole}
use Rattle.run_machine.proofs.Answering.{carried}
use Rattle.run_machine.proofs.Coming.{Answers}
use Rattle.run_steps.specs.Frames.{body_of}
use Rattle.run_steps.specs.Outcomes.{request_of}
use Rattle.run_machine.proofs.asking.ask_other.Goals as goal

pub returns : goal.returns
returns g c = λ e. IfOk-weaker _
    (Answers (record c.args.rest.now { world = c.answer.new.world }) c.on_answer.new.rest c.args.frame
    (λ p w. model_answer c.in_ok-answer.answer w))
    (λ k. (b : Body) → state_at (g.S.Shapes.shape c.args.shapes.now) c.on_answer.new.rest k
    ≡ on_answer (g.S.Shapes.shape c.args.shapes.now) (whole (g.S.Shapes.shape c.args.shapes.now) c.args.rest.now)
    c.args.frame.method b (body_of c.args.frame.body) (waits_of c.args.rest.now.waits)
    (answer (g.S.Shapes.shape c.args.shapes.now) c.args.frame.method.class
    (whole (g.S.Shapes.shape c.args.shapes.now) c.args.rest.now) (request_of c.args.request)))
    (λ k h b. h (g.S.Shapes.shape c.args.shapes.now) b
    ∙ carried (g.S.Shapes.shape c.args.shapes.now) (init_at (g.S.Shapes.shape c.args.shapes.now) c.args.rest.now.marks)
    c.args.frame.method b (body_of c.args.frame.body) (waits_of c.args.rest.now.waits)
    c.in_ok-answer.answer c.args.rest.now.world c.answer.new.world
    (λ w. answer (g.S.Shapes.shape c.args.shapes.now) c.class.result.now w (request_of c.args.request))
    (c.in_ok-answer.ensures e)
    ∙ ap (λ (n : List ℕ). on_answer (g.S.Shapes.shape c.args.shapes.now)
    (whole (g.S.Shapes.shape c.args.shapes.now) c.args.rest.now) c.args.frame.method b (body_of c.args.frame.body)
    (waits_of c.args.rest.now.waits) (answer (g.S.Shapes.shape c.args.shapes.now) n
    (whole (g.S.Shapes.shape c.args.shapes.now) c.args.rest.now) (request_of c.args.request))) c.class.ensures)
    c.on_answer.ensures
