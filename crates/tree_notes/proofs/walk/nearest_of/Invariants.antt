use Rattle.tree_notes.specs.bodies.Walking.{IsWalk}
use Rattle.tree_notes.proofs.walk.nearest_of.Given as goal

abbrev pub invariant-loop : goal.invariant-loop
invariant-loop l = IsWalk l.fn.parents l.fn.keys l.walk
