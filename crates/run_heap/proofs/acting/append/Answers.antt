-- Answers of `append`: what its calls ask for, and what it promises.
use Rattle.std.proofs.Common.{◌∙◌, List, ap, refl, sym, ℕ}
use Rattle.std.proofs.lemmas.Result.{IfOk-weaker}
use Rattle.std.specs.Prelude.{slice_get}
use Rattle.jvm_model.specs.Answers.{of_some}
use Rattle.jvm_model.specs.Calls.{acted}
use Rattle.run_heap.specs.Answers.{Changes}
use Rattle.run_heap.specs.bodies.Acting.{append_to}
use Rattle.run_heap.specs.Worlds.{world_of}
use Rattle.run_heap.proofs.Changing.{append_first, append_nowhere}
use Rattle.run_heap.proofs.Due.{as_due}
use Rattle.run_library.specs.Acts.{appended}
use Rattle.run_heap.proofs.acting.append.Goals as goal

pub returns-in-Some : goal.returns-in-Some
returns-in-Some c = λ told are. IfOk-weaker _
    (λ a. Changes a c.args.world.now c.append_at.new.world
    (λ w. of_some (append_to w c.in-Some.number c.as_slice.result.now) (slice_get w.heap c.in-Some.number)))
    (λ a. Changes a c.args.world.now c.append_at.new.world (λ w. acted w (appended told c.args.units)))
    (λ a h. as_due a c.args.world.now c.append_at.new.world
    (λ w. of_some (append_to w c.in-Some.number c.as_slice.result.now) (slice_get w.heap c.in-Some.number))
    (λ w. acted w (appended told c.args.units))
    (λ inits. append_first (world_of inits c.args.world.now) c.args.operands.now told c.in-Some.number
    c.as_slice.result.now (are inits) (sym c.in-Some.ensures)
    ∙ ap (λ (us : List ℕ). acted (world_of inits c.args.world.now) (appended told us)) c.as_slice.ensures) h)
    c.append_at.ensures

pub returns : goal.returns
returns c = λ told are. (
  λ inits. append_nowhere (world_of inits c.args.world.now) c.args.operands.now told c.args.units (are inits)
      (sym c.in-None.ensures),
  λ inits. refl,
)
