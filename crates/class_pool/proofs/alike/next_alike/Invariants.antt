use Rattle.std.proofs.Common.{◌≡◌, IfSome, Option}
use Rattle.class_pool.specs.declared.id.ClassId.{ClassId}
use Rattle.class_pool.specs.Found.{declared_by, named_at}
use Rattle.class_pool.specs.Hierarchy.{IsClass}
use Rattle.class_pool.specs.Walk.{superclasses_up}
use Rattle.class_pool.proofs.alike.next_alike.Given as goal

abbrev pub invariant-loop-class : goal.invariant-loop-class
invariant-loop-class l = (up : Option ClassId) × IfSome up (IsClass l.set)
    × (l.class-iterator ≡ superclasses_up l.set up)
    × (declared_by l.set (named_at l.set l.m) (superclasses_up l.set l.fn.next)
    ≡ declared_by l.set (named_at l.set l.m) l.class-iterator)
