-- Answers of `toss`: what its calls ask for, and what it promises.
use Rattle.std.proofs.Common.{◌≡◌, ◌∙◌, ◌∷◌, [], ap, refl}
use Rattle.std.proofs.lemmas.Result.{IfOk-weaker}
use Rattle.jvm_model.specs.Program.{Shape}
use Rattle.jvm_model.specs.State.{Body as Standing}
use Rattle.jvm_model.specs.Step.{toss}
use Rattle.jvm_model.specs.Value.{Value}
use Rattle.run_machine.specs.States.{frame_of, state_at, waits_of, whole}
use Rattle.run_machine.proofs.Bodies.{put_back}
use Rattle.run_steps.specs.Frames.{body_of}
use Rattle.run_steps.specs.Outcomes.{IsWithout}
use Rattle.run_steps.specs.declared.body.Body.{Body}
use Rattle.run_machine.proofs.returning.toss.Goals as goal

pub returns-in-None : goal.returns-in-None
returns-in-None c = IfOk-weaker _
    (λ k. (p : Shape) → state_at p c.toss_other.new.rest k
    ≡ toss (whole p c.args.rest.now)
    (frame_of (record c.args.frame { body = (record c.args.frame.body { stack = c.push.new.self }) })) c.args.thrown
    (waits_of c.args.rest.now.waits))
    (λ k. (p : Shape) (b : Body) → IsWithout (c.args.thrown ∷ []) b c.args.frame.body
    → state_at p c.toss_other.new.rest k
    ≡ toss (whole p c.args.rest.now) (record { method = c.args.frame.method; body = body_of b }) c.args.thrown
    (waits_of c.args.rest.now.waits))
    (λ k h p b w. h p
    ∙ ap (λ (x : Standing). toss (whole p c.args.rest.now) (record { method = c.args.frame.method; body = x })
    c.args.thrown (waits_of c.args.rest.now.waits))
    (put_back (c.args.thrown ∷ []) b c.args.frame.body (record c.args.frame.body { stack = c.push.new.self }) w refl
    refl (c.in_ok-push.ensures ∙ ap (λ (v : Value). v ∷ c.args.frame.body.stack) c.in_ok-clone.ensures.cases)))
    c.toss_other.ensures
