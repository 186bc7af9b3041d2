use Rattle.std.proofs.Common.{◌≡◌}
use Rattle.std.specs.List.{All, find}
use Rattle.class_pool.specs.Found.{declared_by, named_at}
use Rattle.class_pool.specs.Hierarchy.{IsClass}
use Rattle.link_check.specs.bodies.Overriding.{alike_from, overrides_where}
use Rattle.link_check.proofs.references.selection.nearest.Given as goal

abbrev pub invariant-loop-class : goal.invariant-loop-class
invariant-loop-class l = record {
  there : All (IsClass l.set) l.class-iterator;
  found : let test = overrides_where l.set l.m l.opened in
      find test (declared_by l.set (named_at l.set l.m) l.class-iterator) ≡ find test (alike_from l.set l.m l.fn.class);
}
