use Rattle.std.proofs.Common.{take}
use Rattle.tree_notes.specs.bodies.Walking.{ArePut}
use Rattle.tree_notes.specs.declared.nearest.Up.TheVariants.{At}
use Rattle.tree_notes.proofs.walk.put_each.Given as goal

abbrev pub invariant-loop-key : goal.invariant-loop-key
invariant-loop-key l =
    ArePut l.fn.time (λ key. At l.fn.node) (take l.key-index l.fn.keys) l.fn.changes.items l.changes.items
