-- Answers of `prepare`: what its calls ask for, and what it promises.
use Rattle.std.proofs.Common.{◌≡◌, ◌∙◌, ap, refl, sym}
use Rattle.std.proofs.lemmas.Result.{IfOk-weaker}
use Rattle.jvm_model.specs.Initialisation.{prepare, run_clinit}
use Rattle.jvm_model.specs.Program.{Shape}
use Rattle.run_machine.specs.States.{state_at, waits_of, whole}
use Rattle.run_machine.proofs.initialising.prepare.Goals as goal

pub returns-in_ok-method-in-None : goal.returns-in_ok-method-in-None
returns-in_ok-method-in-None g c = IfOk-weaker _
    (λ k. (p : Shape) → state_at p c.run_clinit.new.rest k
    ≡ run_clinit (whole p c.args.rest.now) c.args.class (waits_of c.args.rest.now.waits) c.in_ok-method-in-None.method)
    (λ k. state_at (g.S.Shapes.shape c.args.shapes.now) c.run_clinit.new.rest k
    ≡ prepare (g.S.Shapes.shape c.args.shapes.now) (whole (g.S.Shapes.shape c.args.shapes.now) c.args.rest.now)
    c.args.class c.args.firsts (waits_of c.args.rest.now.waits))
    (λ k h. h (g.S.Shapes.shape c.args.shapes.now)
    ∙ ap (run_clinit (whole (g.S.Shapes.shape c.args.shapes.now) c.args.rest.now) c.args.class
    (waits_of c.args.rest.now.waits)) c.in_ok-method-in-None.ensures
    ∙ sym (c.in-None.ensures (whole (g.S.Shapes.shape c.args.shapes.now) c.args.rest.now) c.args.class
    (waits_of c.args.rest.now.waits) refl)) c.run_clinit.ensures
