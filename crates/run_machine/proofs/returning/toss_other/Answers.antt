-- Answers of `toss_other`: what its calls ask for, and what it promises.
use Rattle.std.proofs.Common.{◌≡◌, ◌∙◌, List, ap, sym}
use Rattle.std.proofs.lemmas.Result.{IfOk-weaker}
use Rattle.jvm_model.specs.Exceptions.{NullPointer}
use Rattle.jvm_model.specs.Initialisation.{raised}
use Rattle.jvm_model.specs.Program.{Shape}
use Rattle.jvm_model.specs.Step.{toss}
use Rattle.jvm_model.specs.Value.{Value}
use Rattle.run_heap.proofs.Pointing.{is_null}
use Rattle.run_machine.specs.Inits.{init_at}
use Rattle.run_machine.specs.States.{frame_of, state_at, waits_of, whole}
use Rattle.run_machine.specs.declared.state.Wait.{Wait}
use Rattle.run_machine.proofs.Coming.{Raised}
use Rattle.run_machine.proofs.returning.toss_other.Goals as goal

pub returns-then-is_null : goal.returns-then-is_null
returns-then-is_null c = IfOk-weaker _ (Raised c.args.rest.now.world c.raise.new.world NullPointer)
    (λ k. (p : Shape) → state_at p (record c.args.rest.now { world = c.raise.new.world; waits = c.push.new.self }) k
    ≡ toss (whole p c.args.rest.now) (frame_of c.args.frame) c.args.thrown (waits_of c.args.rest.now.waits))
    (λ k h p. h (init_at p c.args.rest.now.marks) (waits_of c.push.new.self)
    ∙ ap (λ (ws : List Wait). raised (whole p c.args.rest.now) NullPointer (waits_of ws)) c.in_ok-push.ensures
    ∙ sym (ap (λ (v : Value). toss (whole p c.args.rest.now) (frame_of c.args.frame) v (waits_of c.args.rest.now.waits))
    (is_null c.args.thrown (sym c.is_null.ensures ∙ c.if-is_null.true)))) c.raise.ensures
