use Rattle.std.proofs.Common.{◌≡◌}
use Rattle.std.specs.List.{All}
use Rattle.class_pool.specs.Hierarchy.{IsClass}
use Rattle.link_check.specs.bodies.Walks.{superinterfaces_of}
use Rattle.link_check.proofs.references.superinterfaces.next_interfaces.Given as goal

abbrev pub invariant-loop-class : goal.invariant-loop-class
invariant-loop-class l = record {
  left : superinterfaces_of l.set l.fn.classes ≡ superinterfaces_of l.set l.classes;
  there : All (IsClass l.set) l.classes;
}
