-- Answers of `get_static`: what its calls ask for, and what it promises.
use Rattle.std.proofs.Common.{◌∙◌, ◌∷◌, [], ℕ, List, Option, Some, ap, refl, sym}
use Rattle.std.proofs.lemmas.Result.{IfOk-weaker}
use Rattle.jvm_model.specs.Fields.{get_static}
use Rattle.jvm_model.specs.Answers.{Gives, of_some}
use Rattle.jvm_model.specs.Initialisation.{begin, is_due}
use Rattle.jvm_model.specs.State.{AfterInit}
use Rattle.jvm_model.specs.Step.{on_answer}
use Rattle.jvm_model.specs.Value.{Key}
use Rattle.run_heap.specs.Answers.{model_answer}
use Rattle.run_heap.specs.Targets.{key_found}
use Rattle.std.specs.Option.{option_map}
use Rattle.run_machine.specs.Inits.{init_at}
use Rattle.run_machine.specs.States.{frame_of, waits_of, whole}
use Rattle.run_machine.specs.bodies.Asked.{Asks}
use Rattle.run_machine.proofs.Answering.{awaited, passed}
use Rattle.run_machine.proofs.Bodies.{put_back}
use Rattle.run_machine.proofs.Coming.{Answers, Awaits}
use Rattle.run_steps.specs.Frames.{body_of}
use Rattle.run_steps.specs.declared.outcome.Request.TheVariants as request
use Rattle.run_machine.proofs.asking.get_static.Goals as goal

pub returns-then-is_due : goal.returns-then-is_due
returns-then-is_due g c = IfOk-weaker _
    (Awaits (g.S.Shapes.shape c.args.shapes.now) c.args.rest.now c.await_class.new.rest c.args.frame
    c.class-then-is_due.result.now)
    (λ k. Asks (g.S.Shapes.shape c.args.shapes.now) c.args.rest.now c.await_class.new.rest k c.args.frame
    (request.GetStatic c.args.field))
    (λ k h b w. h
    ∙ ap (λ (n : List ℕ). begin (g.S.Shapes.shape c.args.shapes.now)
    (whole (g.S.Shapes.shape c.args.shapes.now) c.args.rest.now) n
    (AfterInit (frame_of c.args.frame) ∷ (waits_of c.args.rest.now.waits))) c.class-then-is_due.ensures
    ∙ awaited (g.S.Shapes.shape c.args.shapes.now) (whole (g.S.Shapes.shape c.args.shapes.now) c.args.rest.now)
    c.args.frame.method (body_of b) (body_of c.args.frame.body) (body_of c.args.frame.body)
    (waits_of c.args.rest.now.waits) c.key-key.result.now.class
    (Gives (Some ((whole (g.S.Shapes.shape c.args.shapes.now) c.args.rest.now).statics c.key-key.result.now))
    (whole (g.S.Shapes.shape c.args.shapes.now) c.args.rest.now))
    (ap (λ (n : List ℕ). is_due (init_at (g.S.Shapes.shape c.args.shapes.now) c.args.rest.now.marks n))
    (sym c.class.ensures) ∙ sym c.is_due.ensures ∙ c.if-is_due.true)
    (put_back [] b c.args.frame.body c.args.frame.body w refl refl refl)
    ∙ ap (λ (o : Option Key). on_answer (g.S.Shapes.shape c.args.shapes.now)
    (whole (g.S.Shapes.shape c.args.shapes.now) c.args.rest.now) c.args.frame.method (body_of b)
    (body_of c.args.frame.body) (waits_of c.args.rest.now.waits)
    (of_some (get_static (whole (g.S.Shapes.shape c.args.shapes.now) c.args.rest.now)) o))
    (ap (λ (k : Key). Some k) c.key-key.ensures ∙ ap (option_map key_found) (sym c.in-Some.is) ∙ c.in_ok-found.ensures))
    c.await_class.ensures

pub returns : goal.returns
returns g c = IfOk-weaker _
    (Answers c.args.rest.now c.on_answer.new.rest c.args.frame (λ p w. model_answer c.in_ok-answer.answer w))
    (λ k. Asks (g.S.Shapes.shape c.args.shapes.now) c.args.rest.now c.on_answer.new.rest k c.args.frame
    (request.GetStatic c.args.field))
    (λ k h b w. h (g.S.Shapes.shape c.args.shapes.now) (body_of b)
    ∙ ap (on_answer (g.S.Shapes.shape c.args.shapes.now) (whole (g.S.Shapes.shape c.args.shapes.now) c.args.rest.now)
    c.args.frame.method (body_of b) (body_of c.args.frame.body) (waits_of c.args.rest.now.waits))
    (c.in_ok-answer.ensures (init_at (g.S.Shapes.shape c.args.shapes.now) c.args.rest.now.marks))
    ∙ passed (g.S.Shapes.shape c.args.shapes.now) (whole (g.S.Shapes.shape c.args.shapes.now) c.args.rest.now)
    c.args.frame.method (body_of b) (body_of c.args.frame.body) (waits_of c.args.rest.now.waits)
    c.key-key.result.now.class
    (Gives (Some ((whole (g.S.Shapes.shape c.args.shapes.now) c.args.rest.now).statics c.key-key.result.now))
    (whole (g.S.Shapes.shape c.args.shapes.now) c.args.rest.now))
    (ap (λ (n : List ℕ). is_due (init_at (g.S.Shapes.shape c.args.shapes.now) c.args.rest.now.marks n))
    (sym c.class.ensures) ∙ sym c.is_due.ensures ∙ c.if-is_due.false)
    ∙ ap (λ (o : Option Key). on_answer (g.S.Shapes.shape c.args.shapes.now)
    (whole (g.S.Shapes.shape c.args.shapes.now) c.args.rest.now) c.args.frame.method (body_of b)
    (body_of c.args.frame.body) (waits_of c.args.rest.now.waits)
    (of_some (get_static (whole (g.S.Shapes.shape c.args.shapes.now) c.args.rest.now)) o))
    (ap (λ (k : Key). Some k) c.key-key.ensures ∙ ap (option_map key_found) (sym c.in-Some.is) ∙ c.in_ok-found.ensures))
    c.on_answer.ensures
