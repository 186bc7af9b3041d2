-- Answers of `put_static`: what its calls ask for, and what it promises.
use Rattle.std.proofs.Common.{◌∙◌, ◌∷◌, [], ℕ, List, None, Option, Some, ap, refl, sym}
use Rattle.std.proofs.lemmas.Result.{IfOk-weaker}
use Rattle.jvm_model.specs.Fields.{put_static, stored_in}
use Rattle.jvm_model.specs.Answers.{Gives, of_some}
use Rattle.jvm_model.specs.Initialisation.{begin, is_due}
use Rattle.jvm_model.specs.State.{AfterInit}
use Rattle.jvm_model.specs.Step.{on_answer}
use Rattle.jvm_model.specs.Value.{Key, set_key}
use Rattle.run_heap.specs.Answers.{model_answer}
use Rattle.run_heap.specs.Targets.{key_found}
use Rattle.std.specs.Option.{option_map}
use Rattle.run_machine.specs.Inits.{init_at}
use Rattle.run_machine.specs.States.{frame_of, waits_of, whole}
use Rattle.run_machine.specs.bodies.Asked.{Asks}
use Rattle.run_machine.proofs.Answering.{awaited, carried, passed}
use Rattle.run_machine.proofs.Bodies.{put_back}
use Rattle.run_machine.proofs.Coming.{Answers, Awaits}
use Rattle.run_steps.specs.Frames.{body_of}
use Rattle.run_steps.specs.declared.outcome.Request.TheVariants as request
use Rattle.run_machine.proofs.asking.put_static.Goals as goal

pub returns-then-is_due : goal.returns-then-is_due
returns-then-is_due g c = IfOk-weaker _
    (Awaits (g.S.Shapes.shape c.args.shapes.now) c.args.rest.now c.await_class.new.rest
    (record c.args.frame { body = record c.args.frame.body { stack = c.push.new.self } })
    c.class-then-is_due.result.now)
    (λ k. Asks (g.S.Shapes.shape c.args.shapes.now) c.args.rest.now c.await_class.new.rest k c.args.frame
    (request.PutStatic c.args.field c.args.value))
    (λ k h b w. h
    ∙ ap (λ (n : List ℕ). begin (g.S.Shapes.shape c.args.shapes.now)
    (whole (g.S.Shapes.shape c.args.shapes.now) c.args.rest.now) n
    (AfterInit (frame_of (record c.args.frame { body = record c.args.frame.body { stack = c.push.new.self } }))
    ∷ (waits_of c.args.rest.now.waits))) c.class-then-is_due.ensures
    ∙ awaited (g.S.Shapes.shape c.args.shapes.now) (whole (g.S.Shapes.shape c.args.shapes.now) c.args.rest.now)
    c.args.frame.method (body_of b) (body_of (record c.args.frame.body { stack = c.push.new.self }))
    (body_of c.args.frame.body) (waits_of c.args.rest.now.waits)
    c.key-key.result.now.class
    (Gives None (record (whole (g.S.Shapes.shape c.args.shapes.now) c.args.rest.now) {
      statics = set_key (whole (g.S.Shapes.shape c.args.shapes.now) c.args.rest.now).statics c.key-key.result.now
          (stored_in c.key-key.result.now c.args.value);
    }))
    (ap (λ (n : List ℕ). is_due (init_at (g.S.Shapes.shape c.args.shapes.now) c.args.rest.now.marks n))
    (sym c.class.ensures) ∙ sym c.is_due.ensures ∙ c.if-is_due.true)
    (put_back (c.args.value ∷ []) b c.args.frame.body (record c.args.frame.body { stack = c.push.new.self }) w refl refl
    c.in_ok-push.ensures)
    ∙ ap (λ (o : Option Key). on_answer (g.S.Shapes.shape c.args.shapes.now)
    (whole (g.S.Shapes.shape c.args.shapes.now) c.args.rest.now) c.args.frame.method (body_of b)
    (body_of c.args.frame.body) (waits_of c.args.rest.now.waits)
    (of_some (put_static (whole (g.S.Shapes.shape c.args.shapes.now) c.args.rest.now) c.args.value) o))
    (ap (λ (k : Key). Some k) c.key-key.ensures ∙ ap (option_map key_found) (sym c.in-Some.is) ∙ c.in_ok-found.ensures))
    c.await_class.ensures

pub returns : goal.returns
returns g c = IfOk-weaker _
    (Answers (record c.args.rest.now { world = c.put_static.new.world }) c.on_answer.new.rest c.args.frame
    (λ p w. model_answer c.in_ok-answer.answer w))
    (λ k. Asks (g.S.Shapes.shape c.args.shapes.now) c.args.rest.now c.on_answer.new.rest k c.args.frame
    (request.PutStatic c.args.field c.args.value))
    (λ k h b w. h (g.S.Shapes.shape c.args.shapes.now) (body_of b)
    ∙ carried (g.S.Shapes.shape c.args.shapes.now) (init_at (g.S.Shapes.shape c.args.shapes.now) c.args.rest.now.marks)
    c.args.frame.method (body_of b) (body_of c.args.frame.body) (waits_of c.args.rest.now.waits)
    c.in_ok-answer.answer c.args.rest.now.world
    c.put_static.new.world
    (λ x. Gives None
    (record x { statics = set_key x.statics c.key-key.result.now (stored_in c.key-key.result.now c.args.value) }))
    c.in_ok-answer.ensures
    ∙ passed (g.S.Shapes.shape c.args.shapes.now) (whole (g.S.Shapes.shape c.args.shapes.now) c.args.rest.now)
    c.args.frame.method (body_of b) (body_of c.args.frame.body) (waits_of c.args.rest.now.waits)
    c.key-key.result.now.class
    (Gives None (record (whole (g.S.Shapes.shape c.args.shapes.now) c.args.rest.now) {
      statics = set_key (whole (g.S.Shapes.shape c.args.shapes.now) c.args.rest.now).statics c.key-key.result.now
          (stored_in c.key-key.result.now c.args.value);
    }))
    (ap (λ (n : List ℕ). is_due (init_at (g.S.Shapes.shape c.args.shapes.now) c.args.rest.now.marks n))
    (sym c.class.ensures) ∙ sym c.is_due.ensures ∙ c.if-is_due.false)
    ∙ ap (λ (o : Option Key). on_answer (g.S.Shapes.shape c.args.shapes.now)
    (whole (g.S.Shapes.shape c.args.shapes.now) c.args.rest.now) c.args.frame.method (body_of b)
    (body_of c.args.frame.body) (waits_of c.args.rest.now.waits)
    (of_some (put_static (whole (g.S.Shapes.shape c.args.shapes.now) c.args.rest.now) c.args.value) o))
    (ap (λ (k : Key). Some k) c.key-key.ensures ∙ ap (option_map key_found) (sym c.in-Some.is) ∙ c.in_ok-found.ensures))
    c.on_answer.ensures
