use Rattle.std.proofs.Common.{◌≡◌, ◌++◌, map, take}
use Rattle.class_pool.specs.bodies.Graph.{above_class, above_library, library_ids}
use Rattle.class_pool.proofs.hierarchy.graph.graph_of.Given as goal

abbrev pub invariant-loop-class : goal.invariant-loop-class
invariant-loop-class l = l.needs
    ≡ map above_library library_ids ++ map (above_class l.classes) (take l.class-index l.classes)
