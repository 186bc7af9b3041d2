use Rattle.std.proofs.Common.{◌≡◌}
use Rattle.std.specs.List.{All, list_any}
use Rattle.class_pool.specs.Hierarchy.{IsClass}
use Rattle.class_pool.specs.Supers.{is_below}
use Rattle.class_pool.specs.bodies.Supers.{is_self_or_own}
use Rattle.link_check.proofs.references.running.is_below.Given as goal

abbrev pub invariant-loop-class : goal.invariant-loop-class
invariant-loop-class l = record {
  there : All (IsClass l.set) l.class-iterator;
  found : list_any (is_self_or_own l.set l.above) l.class-iterator ≡ is_below l.set l.fn.below l.above;
}
