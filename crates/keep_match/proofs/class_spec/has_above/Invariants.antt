use Rattle.std.proofs.Common.{◌≡◌}
use Rattle.std.specs.List.{All, list_any}
use Rattle.class_pool.specs.declared.id.ClassId.TheVariants.{Prog}
use Rattle.class_pool.specs.Hierarchy.{IsClass}
use Rattle.class_pool.specs.Walk.{superclasses_from}
use Rattle.keep_match.specs.bodies.Above.{is_met_at}
use Rattle.keep_match.proofs.class_spec.has_above.Given as goal

abbrev pub invariant-loop-class : goal.invariant-loop-class
invariant-loop-class l = record {
  same : list_any (is_met_at l.pattern l.set l.number) l.class-iterator
      ≡ list_any (is_met_at l.pattern l.set l.number) (superclasses_from l.set (Prog l.number));
  there : All (IsClass l.set) l.class-iterator;
}
