use Rattle.std.proofs.Common.{◌≡◌, ◌≤◌}
use Rattle.class_pool.proofs.hierarchy.graph.library_number.Given as goal

abbrev pub invariant-loop-other : goal.invariant-loop-other
invariant-loop-other l = (l.number ≡ l.other-index) × (l.other-index ≤ l.id)
