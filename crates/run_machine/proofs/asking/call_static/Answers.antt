-- Answers of `call_static`: what its calls ask for, and what it promises.
use Rattle.std.proofs.Common.{◌∙◌, Option, Some, ap, reverse, sym}
use Rattle.std.proofs.lemmas.Result.{IfOk-weaker}
use Rattle.std.specs.Option.{option_map}
use Rattle.jvm_model.specs.Calls.{called, called_static}
use Rattle.jvm_model.specs.Program.{Program, Target as Run}
use Rattle.run_heap.specs.Targets.{target_of}
use Rattle.run_heap.specs.declared.target.Target.{Target}
use Rattle.run_heap.specs.declared.target.Target.TheVariants as target
use Rattle.jvm_model.specs.Answers.{of_some}
use Rattle.jvm_model.specs.Step.{on_answer}
use Rattle.run_machine.specs.States.{waits_of, whole}
use Rattle.run_machine.specs.bodies.Asked.{Asks, AsksWith}
use Rattle.run_machine.proofs.Coming.{Answers}
use Rattle.run_steps.specs.Frames.{body_of}
use Rattle.run_steps.specs.declared.outcome.Request.TheVariants as request
use Rattle.run_machine.proofs.asking.call_static.Goals as goal

pub returns-in-Some-Program : goal.returns-in-Some-Program
returns-in-Some-Program g c = IfOk-weaker _
    (λ k. AsksWith (g.S.Shapes.shape c.args.shapes.now) c.args.rest.now c.call_program.new.rest k c.args.frame
    (reverse c.args.arguments) (λ w. called_static w c.args.arguments (Program c.in-Some-Program.method)))
    (λ k. Asks (g.S.Shapes.shape c.args.shapes.now) c.args.rest.now c.call_program.new.rest k c.args.frame
    (request.CallStatic c.args.method c.args.arguments))
    (λ k h b w. h b w
    ∙ ap (λ (o : Option Run). on_answer (g.S.Shapes.shape c.args.shapes.now)
    (whole (g.S.Shapes.shape c.args.shapes.now) c.args.rest.now) c.args.frame.method (body_of b)
    (body_of c.args.frame.body) (waits_of c.args.rest.now.waits)
    (of_some (called_static (whole (g.S.Shapes.shape c.args.shapes.now) c.args.rest.now) c.args.arguments) o))
    (sym (ap (option_map target_of) (c.in-Some-Program.is ∙ ap (λ (t : Target). Some t) c.in-Some-Program.field-0-is))
    ∙ c.in_ok-method.ensures)) c.call_program.ensures

pub returns-in-Some-Library : goal.returns-in-Some-Library
returns-in-Some-Library g c = IfOk-weaker _
    (Answers c.args.rest.now c.call_other.new.rest c.args.frame
    (λ p w. called w c.args.arguments (target_of (target.Library c.in-Some-Library.row))))
    (λ k. Asks (g.S.Shapes.shape c.args.shapes.now) c.args.rest.now c.call_other.new.rest k c.args.frame
    (request.CallStatic c.args.method c.args.arguments))
    (λ k h b w. h (g.S.Shapes.shape c.args.shapes.now) (body_of b)
    ∙ ap (λ (o : Option Run). on_answer (g.S.Shapes.shape c.args.shapes.now)
    (whole (g.S.Shapes.shape c.args.shapes.now) c.args.rest.now) c.args.frame.method (body_of b)
    (body_of c.args.frame.body) (waits_of c.args.rest.now.waits)
    (of_some (called_static (whole (g.S.Shapes.shape c.args.shapes.now) c.args.rest.now) c.args.arguments) o))
    (sym (ap (option_map target_of) (c.in-Some-Library.is ∙ ap (λ (t : Target). Some t) c.in-Some-Library.field-0-is))
    ∙ c.in_ok-method.ensures)) c.call_other.ensures

pub returns-in-Some-Fails : goal.returns-in-Some-Fails
returns-in-Some-Fails g c = IfOk-weaker _
    (Answers c.args.rest.now c.call_other-in-Some-Fails.new.rest c.args.frame
    (λ p w. called w c.args.arguments (target_of (target.Fails c.in-Some-Fails.exception))))
    (λ k. Asks (g.S.Shapes.shape c.args.shapes.now) c.args.rest.now c.call_other-in-Some-Fails.new.rest k c.args.frame
    (request.CallStatic c.args.method c.args.arguments))
    (λ k h b w. h (g.S.Shapes.shape c.args.shapes.now) (body_of b)
    ∙ ap (λ (o : Option Run). on_answer (g.S.Shapes.shape c.args.shapes.now)
    (whole (g.S.Shapes.shape c.args.shapes.now) c.args.rest.now) c.args.frame.method (body_of b)
    (body_of c.args.frame.body) (waits_of c.args.rest.now.waits)
    (of_some (called_static (whole (g.S.Shapes.shape c.args.shapes.now) c.args.rest.now) c.args.arguments) o))
    (sym (ap (option_map target_of) (c.in-Some-Fails.is ∙ ap (λ (t : Target). Some t) c.in-Some-Fails.field-0-is))
    ∙ c.in_ok-method.ensures)) c.call_other-in-Some-Fails.ensures
