use Rattle.std.proofs.Common.{◌≡◌}
use Rattle.std.specs.List.{All}
use Rattle.class_pool.specs.Hierarchy.{IsClass}
use Rattle.link_check.specs.bodies.Overriding.{alike_from, has_open_override}
use Rattle.link_check.proofs.Upwards.{opened_in}
use Rattle.link_check.proofs.overriding.has_open_override.Given as goal

abbrev pub invariant-loop-class : goal.invariant-loop-class
invariant-loop-class l = record {
  there : All (IsClass l.set) l.class-iterator;
  found : opened_in l.set l.above l.opened l.class-iterator
      ≡ has_open_override l.set l.above (alike_from l.set l.above l.fn.class);
}
