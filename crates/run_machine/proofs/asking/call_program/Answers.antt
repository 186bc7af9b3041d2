-- Answers of `call_program`: what its calls ask for, and what it promises.
use Rattle.std.proofs.Common.{◌∙◌, ◌++◌, ◌∷◌, ℕ, List, ap, refl, reverse, sym}
use Rattle.std.proofs.lemmas.Result.{IfOk-weaker}
use Rattle.jvm_model.specs.Calls.{called_static}
use Rattle.jvm_model.specs.Program.{Program}
use Rattle.jvm_model.specs.Answers as given
use Rattle.jvm_model.specs.Value.{Value}
use Rattle.run_heap.specs.declared.answer.Answer.TheVariants as answer
use Rattle.jvm_model.specs.Answers.{Answer, Gives, of_some}
use Rattle.jvm_model.specs.Initialisation.{begin, is_due}
use Rattle.jvm_model.specs.State.{AfterInit}
use Rattle.run_heap.specs.Answers.{model_answer}
use Rattle.run_machine.specs.Inits.{init_at}
use Rattle.run_machine.specs.States.{frame_of, waits_of, whole}
use Rattle.run_machine.specs.bodies.Asked.{AsksWith}
use Rattle.run_machine.proofs.Answering.{awaited, passed}
use Rattle.run_machine.proofs.Bodies.{put_back}
use Rattle.run_machine.proofs.Coming.{Answers, Awaits}
use Rattle.run_steps.specs.Frames.{body_of}
use Rattle.run_machine.proofs.asking.call_program.Goals as goal

pub returns-then-is_due : goal.returns-then-is_due
returns-then-is_due g c = IfOk-weaker _
    (Awaits (g.S.Shapes.shape c.args.shapes.now) c.args.rest.now c.await_class.new.rest
    (record c.args.frame { body = record c.args.frame.body { stack = c.push_back.new.stack } })
    c.class-then-is_due.result.now)
    (λ k. AsksWith (g.S.Shapes.shape c.args.shapes.now) c.args.rest.now c.await_class.new.rest k c.args.frame
    (reverse c.args.arguments) (λ w. called_static w c.args.arguments (Program c.args.method)))
    (λ k h b w. h
    ∙ ap (λ (n : List ℕ). begin (g.S.Shapes.shape c.args.shapes.now)
    (whole (g.S.Shapes.shape c.args.shapes.now) c.args.rest.now) n
    (AfterInit (frame_of (record c.args.frame {
      body = record c.args.frame.body { stack = c.push_back.new.stack };
    })) ∷ (waits_of c.args.rest.now.waits))) c.class-then-is_due.ensures
    ∙ awaited (g.S.Shapes.shape c.args.shapes.now) (whole (g.S.Shapes.shape c.args.shapes.now) c.args.rest.now)
    c.args.frame.method (body_of b) (body_of (record c.args.frame.body { stack = c.push_back.new.stack }))
    (body_of c.args.frame.body) (waits_of c.args.rest.now.waits)
    c.args.method.class (given.Begins c.args.method c.args.arguments)
    (ap (λ (n : List ℕ). is_due (init_at (g.S.Shapes.shape c.args.shapes.now) c.args.rest.now.marks n))
    (sym c.class.ensures) ∙ sym c.is_due.ensures ∙ c.if-is_due.true)
    (put_back (reverse c.args.arguments) b c.args.frame.body
    (record c.args.frame.body { stack = c.push_back.new.stack }) w refl refl
    (c.in_ok-push_back.ensures
    ∙ ap (λ (vs : List Value). reverse vs ++ c.args.frame.body.stack) c.as_slice.ensures))) c.await_class.ensures

pub returns : goal.returns
returns g c = IfOk-weaker _
    (Answers c.args.rest.now c.on_answer.new.rest c.args.frame
    (λ p w. model_answer (answer.Begins c.args.method c.args.arguments) w))
    (λ k. AsksWith (g.S.Shapes.shape c.args.shapes.now) c.args.rest.now c.on_answer.new.rest k c.args.frame
    (reverse c.args.arguments) (λ w. called_static w c.args.arguments (Program c.args.method)))
    (λ k h b w. h (g.S.Shapes.shape c.args.shapes.now) (body_of b)
    ∙ passed (g.S.Shapes.shape c.args.shapes.now) (whole (g.S.Shapes.shape c.args.shapes.now) c.args.rest.now)
    c.args.frame.method (body_of b) (body_of c.args.frame.body) (waits_of c.args.rest.now.waits) c.args.method.class
    (given.Begins c.args.method c.args.arguments)
    (ap (λ (n : List ℕ). is_due (init_at (g.S.Shapes.shape c.args.shapes.now) c.args.rest.now.marks n))
    (sym c.class.ensures) ∙ sym c.is_due.ensures ∙ c.if-is_due.false)) c.on_answer.ensures
