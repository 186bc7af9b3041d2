use Rattle.std.proofs.Common.{take}
use Rattle.std.specs.List.{AllZip}
use Rattle.class_pool.specs.bodies.ByName.{IsIndexOf}
use Rattle.class_pool.proofs.hierarchy.building.members_of.Given as goal

abbrev pub invariant-loop-number : goal.invariant-loop-number
invariant-loop-number l = AllZip IsIndexOf (take l.number l.classes) l.members
