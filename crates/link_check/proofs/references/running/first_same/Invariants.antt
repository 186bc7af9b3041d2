use Rattle.std.proofs.Common.{◌≡◌}
use Rattle.std.specs.List.{All, find}
use Rattle.class_pool.specs.Found.{declared_by, same_member}
use Rattle.class_pool.specs.Hierarchy.{IsClass}
use Rattle.class_pool.specs.Walk.{superclasses_from}
use Rattle.link_check.proofs.references.running.first_same.Given as goal

abbrev pub invariant-loop-class : goal.invariant-loop-class
invariant-loop-class l = record {
  there : All (IsClass l.set) l.class-iterator;
  found : find (λ x. same_member x l.m) (declared_by l.set (l.r.name, l.r.ty) l.class-iterator)
      ≡ find (λ x. same_member x l.m) (declared_by l.set (l.r.name, l.r.ty) (superclasses_from l.set l.fn.class));
}
