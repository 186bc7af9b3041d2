use Rattle.std.proofs.Common.{◌≡◌, take}
use Rattle.class_pool.specs.Hierarchy.{classes_named}
use Rattle.class_pool.proofs.hierarchy.superinterfaces.classes_named.Given as goal

abbrev pub invariant-loop-name : goal.invariant-loop-name
invariant-loop-name l = l.ids ≡ classes_named l.classes (take l.name-index l.names)
