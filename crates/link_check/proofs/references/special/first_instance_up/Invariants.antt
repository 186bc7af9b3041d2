use Rattle.std.proofs.Common.{◌≡◌}
use Rattle.std.specs.List.{All, find}
use Rattle.class_pool.specs.Found.{declared_by, is_instance_method}
use Rattle.class_pool.specs.Hierarchy.{IsClass}
use Rattle.class_pool.specs.Walk.{superclasses_up}
use Rattle.link_check.proofs.references.special.first_instance_up.Given as goal

abbrev pub invariant-loop-class : goal.invariant-loop-class
invariant-loop-class l = record {
  there : All (IsClass l.set) l.class-iterator;
  found : find (is_instance_method l.set) (declared_by l.set (l.r.name, l.r.ty) l.class-iterator)
      ≡ find (is_instance_method l.set) (declared_by l.set (l.r.name, l.r.ty) (superclasses_up l.set l.fn.class));
}
