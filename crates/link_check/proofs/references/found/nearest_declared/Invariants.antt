use Rattle.std.proofs.Common.{◌≡◌}
use Rattle.std.specs.List.{All}
use Rattle.class_pool.specs.Hierarchy.{IsClass}
use Rattle.class_pool.specs.Resolution.{first_declared}
use Rattle.class_pool.specs.Walk.{superclasses_from}
use Rattle.link_check.proofs.references.found.nearest_declared.Given as goal

abbrev pub invariant-loop-class : goal.invariant-loop-class
invariant-loop-class l = record {
  same : first_declared l.set (l.name, l.ty) l.class-iterator
      ≡ first_declared l.set (l.name, l.ty) (superclasses_from l.set l.fn.class);
  there : All (IsClass l.set) l.class-iterator;
}
