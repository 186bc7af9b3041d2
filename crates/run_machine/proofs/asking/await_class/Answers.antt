-- Answers of `await_class`: what its calls ask for, and what it promises.
use Rattle.std.proofs.Common.{◌∙◌, ◌∷◌, ℕ, List, ap}
use Rattle.std.proofs.lemmas.Result.{IfOk-weaker}
use Rattle.jvm_model.specs.Initialisation.{begin}
use Rattle.jvm_model.specs.State.{AfterInit}
use Rattle.run_machine.specs.States.{frame_of, waits_of, whole}
use Rattle.run_machine.specs.declared.state.Wait.{Wait}
use Rattle.run_machine.proofs.Coming.{Awaits, Begins}
use Rattle.run_machine.proofs.asking.await_class.Goals as goal

pub returns : goal.returns
returns g c = IfOk-weaker _
    (Begins (g.S.Shapes.shape c.args.shapes.now) (record c.args.rest.now { waits = c.push.new.self }) c.begin.new.rest
    c.in_ok-clone.field-0)
    (Awaits (g.S.Shapes.shape c.args.shapes.now) c.args.rest.now c.begin.new.rest c.args.frame c.args.class.now)
    (λ k h. h
    ∙ ap (λ (ws : List Wait). begin (g.S.Shapes.shape c.args.shapes.now)
    (whole (g.S.Shapes.shape c.args.shapes.now) c.args.rest.now) c.in_ok-clone.field-0 (waits_of ws))
    c.in_ok-push.ensures
    ∙ ap (λ (n : List ℕ). begin (g.S.Shapes.shape c.args.shapes.now)
    (whole (g.S.Shapes.shape c.args.shapes.now) c.args.rest.now) n
    (AfterInit (frame_of c.args.frame) ∷ waits_of c.args.rest.now.waits))
    c.in_ok-clone.ensures.cases) c.begin.ensures
