use Rattle.std.proofs.Common.{◌≡◌, drop}
use Rattle.run_heap.specs.Held.{held}
use Rattle.run_machine.specs.bodies.Constants.{with_each}
use Rattle.run_machine.proofs.constants.set_each.Given as goal

abbrev pub invariant-loop-key : goal.invariant-loop-key
invariant-loop-key g l = with_each (g.S.Shapes.shape l.shapes) (drop l.key-index l.keys) (held l.statics)
    ≡ with_each (g.S.Shapes.shape l.shapes) l.keys (held l.fn.statics)
