-- Answers of `unwind_clinit`: what its calls ask for, and what it promises.
use Rattle.std.proofs.Common.{◌≡◌, ◌∙◌, ◌∷◌, ℕ, List, ap, false, sym}
use Rattle.std.proofs.lemmas.Result.{IfOk-weaker}
use Rattle.jvm_model.specs.Heap.{Failed, Init}
use Rattle.jvm_model.specs.Initialisation.{marked, state}
use Rattle.jvm_model.specs.State.{AfterClinit, Unwinds, Wait as Waiting}
use Rattle.jvm_model.specs.Unwinding.{unwind, unwind_clinit}
use Rattle.run_heap.specs.Worlds.{world_of}
use Rattle.run_machine.specs.Inits.{init_at}
use Rattle.run_machine.specs.States.{control_of, program, state_at, waits_of, whole}
use Rattle.run_machine.proofs.unwinding.unwind_clinit.Goals as goal

pub returns-else-branch : goal.returns-else-branch
returns-else-branch g c = IfOk-weaker _
    (λ k. (inits : List ℕ → Init) (ws : List Waiting) → state (world_of inits c.wrap.new.world) (control_of k) ws
    ≡ unwind_clinit (world_of inits c.args.rest.now.world) c.args.number ws false)
    (λ k. state_at (g.S.Shapes.shape c.args.shapes.now)
    (record c.args.rest.now { world = c.wrap.new.world; marks = c.mark.new.self }) k
    ≡ unwind (program (g.S.Shapes.shape c.args.shapes.now) (g.S.Shapes.code_of c.args.shapes.now))
    (whole (g.S.Shapes.shape c.args.shapes.now) c.args.rest.now) c.args.number
    (AfterClinit c.args.class ∷ (waits_of c.args.rest.now.waits)))
    (λ k h. h (init_at (g.S.Shapes.shape c.args.shapes.now) c.mark.new.self) (waits_of c.args.rest.now.waits)
    ∙ ap (λ (f : List ℕ → Init). unwind_clinit (world_of f c.args.rest.now.world) c.args.number
    (waits_of c.args.rest.now.waits) false)
    (c.in_ok-mark.ensures (g.S.Shapes.shape c.args.shapes.now))
    ∙ ap (unwind_clinit (marked (whole (g.S.Shapes.shape c.args.shapes.now) c.args.rest.now) c.args.class Failed)
    c.args.number (waits_of c.args.rest.now.waits))
    (sym c.if-branch.false ∙ c.in_ok-is_error.ensures)) c.wrap.ensures

pub returns-then-branch : goal.returns-then-branch
returns-then-branch g c =
    ap (λ (f : List ℕ → Init). state (record (whole (g.S.Shapes.shape c.args.shapes.now) c.args.rest.now) { inits = f })
    (Unwinds c.args.number) (waits_of c.args.rest.now.waits))
    (c.in_ok-mark.ensures (g.S.Shapes.shape c.args.shapes.now))
    ∙ ap (unwind_clinit (marked (whole (g.S.Shapes.shape c.args.shapes.now) c.args.rest.now) c.args.class Failed)
    c.args.number (waits_of c.args.rest.now.waits))
    (sym c.if-branch.true ∙ c.in_ok-is_error.ensures)
