-- Answers of `next`: what its calls ask for, and what it promises.
use Rattle.std.proofs.Common.{◌≡◌, false, true}
use Rattle.std.proofs.lemmas.Result.{IfOk-weaker}
use Rattle.jvm_model.specs.Initialisation.{complete}
use Rattle.jvm_model.specs.Program.{Shape}
use Rattle.jvm_model.specs.State.{Completes}
use Rattle.jvm_model.specs.Step.{next}
use Rattle.run_machine.specs.States.{program, state_at, waits_of, whole}
use Rattle.run_machine.proofs.stepping.next.Goals as goal

pub returns-in-Completes : goal.returns-in-Completes
returns-in-Completes g c = rw c.in-Completes.is (IfOk-weaker _
    (λ k. (p : Shape) → state_at p c.complete.new.rest k
    ≡ complete (whole p c.args.rest.now) c.in-Completes.class (waits_of c.args.rest.now.waits))
    (λ k. state_at (g.S.Shapes.shape c.args.shapes.now) c.complete.new.rest k
    ≡ next (program (g.S.Shapes.shape c.args.shapes.now) (g.S.Shapes.code_of c.args.shapes.now))
    (whole (g.S.Shapes.shape c.args.shapes.now) c.args.rest.now) (waits_of c.args.rest.now.waits)
    (Completes c.in-Completes.class))
    (λ k h. h (g.S.Shapes.shape c.args.shapes.now)) c.complete.ensures)

pub returns-in-Runs : goal.returns-in-Runs
returns-in-Runs g c = let k : true ≡ false = rw c.in-Runs.is at c.requires in absurd cc
