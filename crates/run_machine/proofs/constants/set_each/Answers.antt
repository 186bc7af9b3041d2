-- Answers of `set_each`: what its calls ask for, and what it promises.
use Rattle.std.proofs.Common.{◌∙◌, rules}
use Rattle.run_heap.specs.Held.{held}
use Rattle.run_machine.proofs.ConstantFields.{each_next}
use Rattle.run_machine.proofs.constants.set_each.Goals as goal

pub loop-key-preserved : goal.loop-key-preserved
loop-key-preserved g c =
    each_next (g.S.Shapes.shape c.args.shapes.now) c.args.keys.now c.loop-key.key-index c.key-item.result
    (held c.loop-key.statics) (held c.set_constant.new.statics) (search rules) c.key-item.is
    c.in_ok-set_constant.ensures
    ∙ c.loop-key.invariant
