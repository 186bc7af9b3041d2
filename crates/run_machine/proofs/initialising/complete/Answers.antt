-- Answers of `complete`: what its calls ask for, and what it promises.
use Rattle.std.proofs.Common.{◌≡◌, ◌∙◌, ℕ, List, ap}
use Rattle.std.proofs.lemmas.Result.{IfOk-weaker}
use Rattle.jvm_model.specs.Heap.{Init, World as Whole}
use Rattle.jvm_model.specs.Initialisation.{complete, goes_back, state}
use Rattle.jvm_model.specs.Program.{Shape}
use Rattle.run_machine.specs.States.{control_of, state_at, waits_of, whole}
use Rattle.run_machine.proofs.initialising.complete.Goals as goal

pub returns : goal.returns
returns c = IfOk-weaker _
    (λ k. (w : Whole) → state w (control_of k) (waits_of c.go_back.new.waits)
    ≡ goes_back w (waits_of c.args.rest.now.waits))
    (λ k. (p : Shape) → state_at p (record c.args.rest.now { marks = c.mark.new.self; waits = c.go_back.new.waits }) k
    ≡ complete (whole p c.args.rest.now) c.args.class (waits_of c.args.rest.now.waits))
    (λ k h p. h (whole p (record c.args.rest.now { marks = c.mark.new.self }))
    ∙ ap (λ (f : List ℕ → Init). goes_back (record (whole p c.args.rest.now) { inits = f })
    (waits_of c.args.rest.now.waits))
    (c.in_ok-mark.ensures p)) c.go_back.ensures
