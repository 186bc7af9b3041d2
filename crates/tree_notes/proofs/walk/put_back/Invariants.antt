use Rattle.std.proofs.Common.{take}
use Rattle.tree_notes.specs.bodies.Times.{changes_at, told_at}
use Rattle.tree_notes.specs.bodies.Walking.{ArePut}
use Rattle.tree_notes.proofs.walk.put_back.Given as goal

abbrev pub invariant-loop-key : goal.invariant-loop-key
invariant-loop-key l =
    ArePut l.fn.time (λ key. told_at l.fn.visit (changes_at l.fn.changes.items key)) (take l.key-index l.fn.keys)
    l.fn.changes.items l.changes.items
