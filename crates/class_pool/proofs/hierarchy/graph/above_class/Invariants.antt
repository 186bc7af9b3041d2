use Rattle.std.proofs.Common.{◌≡◌, ◌∷◌, map, take}
use Rattle.class_pool.specs.bodies.Graph.{number}
use Rattle.class_pool.specs.Hierarchy.{classes_named}
use Rattle.class_pool.proofs.hierarchy.graph.above_class.Given as goal

abbrev pub invariant-loop-name : goal.invariant-loop-name
invariant-loop-name l = l.numbers
    ≡ map number (classes_named l.classes (l.class.super_name ∷ take l.name-index l.class.interfaces))
