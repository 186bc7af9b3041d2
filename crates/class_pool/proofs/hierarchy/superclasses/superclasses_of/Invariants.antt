use Rattle.std.proofs.Common.{◌≡◌, map, take}
use Rattle.class_pool.specs.Hierarchy.{superclass_of}
use Rattle.class_pool.proofs.hierarchy.superclasses.superclasses_of.Given as goal

abbrev pub invariant-loop-number : goal.invariant-loop-number
invariant-loop-number l = l.ids ≡ map (superclass_of l.classes) (take l.number l.classes)
