-- Answers of `unwind`: what its calls ask for, and what it promises.
use Rattle.std.proofs.Common.{◌≡◌, ◌∙◌, ◌∷◌, List, ap, sym}
use Rattle.std.proofs.lemmas.Result.{IfOk-weaker}
use Rattle.jvm_model.specs.Heap.{Failed}
use Rattle.jvm_model.specs.Initialisation.{marked, state}
use Rattle.jvm_model.specs.Program.{Shape}
use Rattle.jvm_model.specs.State.{Unwinds}
use Rattle.jvm_model.specs.Unwinding.{unwind}
use Rattle.run_machine.specs.States.{program, state_at, waits_of, whole}
use Rattle.run_machine.specs.declared.state.Wait.{Wait}
use Rattle.run_machine.proofs.unwinding.unwind.Goals as goal

pub returns-in-Some-AfterFirst : goal.returns-in-Some-AfterFirst
returns-in-Some-AfterFirst g c = IfOk-weaker _
    (λ k. (p : Shape) → state_at p c.fail.new.rest k
    ≡ state (marked (whole p c.args.rest.now) c.in-Some-AfterFirst.class Failed)
    (Unwinds c.args.number) (waits_of c.pop.new.self))
    (λ k. state_at (g.S.Shapes.shape c.args.shapes.now) c.fail.new.rest k
    ≡ unwind (program (g.S.Shapes.shape c.args.shapes.now) (g.S.Shapes.code_of c.args.shapes.now))
    (whole (g.S.Shapes.shape c.args.shapes.now) c.args.rest.now) c.args.number (waits_of c.args.rest.now.waits))
    (λ k h. h (g.S.Shapes.shape c.args.shapes.now)
    ∙ ap (λ (ws : List Wait). unwind
    (program (g.S.Shapes.shape c.args.shapes.now) (g.S.Shapes.code_of c.args.shapes.now))
    (whole (g.S.Shapes.shape c.args.shapes.now) c.args.rest.now) c.args.number (waits_of ws))
    (sym (c.in-Some-AfterFirst.ensures ∙ ap (λ (w : Wait). w ∷ c.pop.new.self) c.in-Some-AfterFirst.field-0-is)))
    c.fail.ensures
