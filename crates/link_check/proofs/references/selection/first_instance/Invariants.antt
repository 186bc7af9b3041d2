use Rattle.std.proofs.Common.{◌≡◌}
use Rattle.std.specs.List.{All, find}
use Rattle.class_pool.specs.Found.{declared_by, is_instance_method, named_at}
use Rattle.class_pool.specs.Hierarchy.{IsClass}
use Rattle.class_pool.specs.Selection.{first_instance}
use Rattle.link_check.proofs.references.selection.first_instance.Given as goal

abbrev pub invariant-loop-class : goal.invariant-loop-class
invariant-loop-class l = record {
  there : All (IsClass l.set) l.class-iterator;
  found : find (is_instance_method l.set) (declared_by l.set (named_at l.set l.m) l.class-iterator)
      ≡ first_instance l.set l.fn.class (named_at l.set l.m);
}
