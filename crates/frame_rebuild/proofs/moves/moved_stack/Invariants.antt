use Rattle.std.proofs.Common.{◌≡◌, ◌++◌, map}
use Rattle.std.specs.Vec.Iter.{into_iter_items}
use Rattle.frame_rebuild.specs.Carried.{moved_type}
use Rattle.frame_rebuild.specs.bodies.Fitting.{stays}
use Rattle.frame_rebuild.proofs.moves.moved_stack.Given as goal

abbrev pub invariant-loop-ty : goal.invariant-loop-ty
invariant-loop-ty l = l.moved ++ map (moved_type (stays l.moves)) (into_iter_items l.ty-iterator)
    ≡ map (moved_type (stays l.moves)) l.fn.types
