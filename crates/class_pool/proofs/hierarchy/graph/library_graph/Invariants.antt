use Rattle.std.proofs.Common.{◌≡◌, map, take}
use Rattle.class_pool.specs.bodies.Graph.{above_library}
use Rattle.class_pool.proofs.hierarchy.graph.library_graph.Given as goal

abbrev pub invariant-loop-id : goal.invariant-loop-id
invariant-loop-id l = l.needs ≡ map above_library (take l.id-index l.library)
