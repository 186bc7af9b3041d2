-- Answers of `set_constants`: what its calls ask for, and what it promises.
use Rattle.std.proofs.Common.{◌≡◌, ◌∙◌, List, ap}
use Rattle.std.proofs.lemmas.Result.{IfOk-weaker}
use Rattle.jvm_model.specs.Initialisation.{with_constants}
use Rattle.jvm_model.specs.Value.{Key}
use Rattle.run_heap.specs.Held.{held}
use Rattle.run_machine.specs.bodies.Constants.{with_each}
use Rattle.run_machine.proofs.ConstantFields.{each_is_all}
use Rattle.run_machine.proofs.constants.set_constants.Goals as goal

pub returns : goal.returns
returns g c = IfOk-weaker _
    (λ x. held c.set_each.new.statics
    ≡ with_each (g.S.Shapes.shape c.args.shapes.now) c.as_slice.result.now (held c.args.statics.now))
    (λ x. held c.set_each.new.statics
    ≡ with_constants (g.S.Shapes.shape c.args.shapes.now) c.args.class.now (held c.args.statics.now))
    (λ x h. h
    ∙ ap (λ (ks : List Key). with_each (g.S.Shapes.shape c.args.shapes.now) ks (held c.args.statics.now))
    c.as_slice.ensures
    ∙ each_is_all (g.S.Shapes.shape c.args.shapes.now) c.args.class.now c.in_ok-keys.keys (held c.args.statics.now)
    c.in_ok-keys.ensures)
    c.set_each.ensures
