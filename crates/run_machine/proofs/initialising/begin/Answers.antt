-- Answers of `begin`: what its calls ask for, and what it promises.
use Rattle.std.proofs.Common.{◌∙◌, ap}
use Rattle.std.proofs.lemmas.Result.{IfOk-weaker}
use Rattle.jvm_model.specs.Exceptions.{NoClassDef}
use Rattle.jvm_model.specs.Initialisation.{begin_by}
use Rattle.run_machine.specs.Inits.{init_at}
use Rattle.run_machine.specs.States.{waits_of, whole}
use Rattle.run_machine.proofs.Coming.{Begins, Raised}
use Rattle.run_machine.proofs.initialising.begin.Goals as goal

pub returns-in-Failed : goal.returns-in-Failed
returns-in-Failed g c = IfOk-weaker _ (Raised c.args.rest.now.world c.raise.new.world NoClassDef)
    (Begins (g.S.Shapes.shape c.args.shapes.now) c.args.rest.now (record c.args.rest.now { world = c.raise.new.world })
    c.args.class)
    (λ k h. h (init_at (g.S.Shapes.shape c.args.shapes.now) c.args.rest.now.marks) (waits_of c.args.rest.now.waits)
    ∙ ap (begin_by (g.S.Shapes.shape c.args.shapes.now) (whole (g.S.Shapes.shape c.args.shapes.now) c.args.rest.now)
    c.args.class (waits_of c.args.rest.now.waits)) c.in-Failed.ensures) c.raise.ensures
