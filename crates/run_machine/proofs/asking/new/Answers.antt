-- Answers of `new`: what its calls ask for, and what it promises.
use Rattle.std.proofs.Common.{◌∙◌, [], ap, refl, sym}
use Rattle.std.proofs.lemmas.Result.{IfOk-weaker}
use Rattle.jvm_model.specs.Fields.{fresh, put_on_heap}
use Rattle.jvm_model.specs.Heap.{Object as Thing}
use Rattle.run_heap.specs.Worlds.{object_of}
use Rattle.jvm_model.specs.Step.{on_answer}
use Rattle.run_heap.specs.Answers.{model_answer}
use Rattle.run_machine.specs.Inits.{init_at}
use Rattle.run_machine.specs.States.{waits_of, whole}
use Rattle.run_machine.specs.bodies.Asked.{Asks}
use Rattle.run_machine.proofs.Answering.{awaited, carried, passed}
use Rattle.run_machine.proofs.Bodies.{put_back}
use Rattle.run_machine.proofs.Coming.{Answers, Awaits}
use Rattle.run_steps.specs.Frames.{body_of}
use Rattle.run_steps.specs.declared.outcome.Request.TheVariants as request
use Rattle.run_machine.proofs.asking.new.Goals as goal

pub returns-then-is_due : goal.returns-then-is_due
returns-then-is_due g c = IfOk-weaker _
    (Awaits (g.S.Shapes.shape c.args.shapes.now) c.args.rest.now c.await_class.new.rest c.args.frame c.args.class.now)
    (λ k. Asks (g.S.Shapes.shape c.args.shapes.now) c.args.rest.now c.await_class.new.rest k c.args.frame
    (request.New c.args.class))
    (λ k h b w. h
    ∙ awaited (g.S.Shapes.shape c.args.shapes.now) (whole (g.S.Shapes.shape c.args.shapes.now) c.args.rest.now)
    c.args.frame.method (body_of b) (body_of c.args.frame.body) (body_of c.args.frame.body)
    (waits_of c.args.rest.now.waits) c.args.class.now
    (put_on_heap (whole (g.S.Shapes.shape c.args.shapes.now) c.args.rest.now) (fresh c.args.class.now))
    (sym c.is_due.ensures ∙ c.if-is_due.true)
    (put_back [] b c.args.frame.body c.args.frame.body w refl refl refl)) c.await_class.ensures

pub returns : goal.returns
returns g c = IfOk-weaker _
    (Answers (record c.args.rest.now { world = c.make.new.world }) c.on_answer.new.rest c.args.frame
    (λ p w. model_answer c.in_ok-answer.answer w))
    (λ k. Asks (g.S.Shapes.shape c.args.shapes.now) c.args.rest.now c.on_answer.new.rest k c.args.frame
    (request.New c.args.class))
    (λ k h b w. h (g.S.Shapes.shape c.args.shapes.now) (body_of b)
    ∙ carried (g.S.Shapes.shape c.args.shapes.now) (init_at (g.S.Shapes.shape c.args.shapes.now) c.args.rest.now.marks)
    c.args.frame.method (body_of b) (body_of c.args.frame.body) (waits_of c.args.rest.now.waits)
    c.in_ok-answer.answer c.args.rest.now.world c.make.new.world
    (λ x. put_on_heap x (object_of c.in_ok-object.object)) c.in_ok-answer.ensures
    ∙ ap (λ (o : Thing). on_answer (g.S.Shapes.shape c.args.shapes.now)
    (whole (g.S.Shapes.shape c.args.shapes.now) c.args.rest.now) c.args.frame.method (body_of b)
    (body_of c.args.frame.body) (waits_of c.args.rest.now.waits)
    (put_on_heap (whole (g.S.Shapes.shape c.args.shapes.now) c.args.rest.now) o)) c.in_ok-object.ensures
    ∙ passed (g.S.Shapes.shape c.args.shapes.now) (whole (g.S.Shapes.shape c.args.shapes.now) c.args.rest.now)
    c.args.frame.method (body_of b) (body_of c.args.frame.body) (waits_of c.args.rest.now.waits) c.args.class.now
    (put_on_heap (whole (g.S.Shapes.shape c.args.shapes.now) c.args.rest.now) (fresh c.args.class.now))
    (sym c.is_due.ensures ∙ c.if-is_due.false)) c.on_answer.ensures
