use Rattle.std.proofs.Common.{◌≡◌, map, take}
use Rattle.class_pool.specs.bodies.Numbers.{above}
use Rattle.class_pool.proofs.hierarchy.cycles.hierarchy_of.Given as goal

abbrev pub invariant-loop-class : goal.invariant-loop-class
invariant-loop-class l = l.needs ≡ map (above l.set) (take l.class-index l.set)
