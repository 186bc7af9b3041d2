use Rattle.std.proofs.Common.{◌≡◌}
use Rattle.std.specs.List.{All}
use Rattle.class_pool.specs.Hierarchy.{IsClass}
use Rattle.link_check.specs.bodies.Walks.{open_methods}
use Rattle.link_check.proofs.references.superinterface_methods.next_open.Given as goal

abbrev pub invariant-loop-interface : goal.invariant-loop-interface
invariant-loop-interface l = record {
  same : open_methods l.set (l.name, l.ty) l.fn.interfaces ≡ open_methods l.set (l.name, l.ty) l.interfaces;
  there : All (IsClass l.set) l.interfaces;
}
