use Rattle.std.proofs.Common.{◌≡◌}
use Rattle.std.specs.List.{All, list_any}
use Rattle.class_pool.specs.Hierarchy.{IsClass}
use Rattle.class_pool.specs.Walk.{superclasses_from}
use Rattle.class_pool.specs.bodies.Supers.{is_self_or_own}
use Rattle.class_pool.proofs.set.ClassSet.is_sub.Given as goal

abbrev pub invariant-loop-class : goal.invariant-loop-class
invariant-loop-class l = record {
  same : list_any (is_self_or_own l.self l.b) l.class-iterator
      ≡ list_any (is_self_or_own l.self l.b) (superclasses_from l.self l.fn.a);
  there : All (IsClass l.self) l.class-iterator;
}
