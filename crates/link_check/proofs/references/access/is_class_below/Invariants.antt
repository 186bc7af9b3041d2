use Rattle.std.proofs.Common.{◌≡◌}
use Rattle.std.specs.List.{list_any}
use Rattle.class_pool.specs.Walk.{same_class, superclasses_from}
use Rattle.link_check.proofs.references.access.is_class_below.Given as goal

abbrev pub invariant-loop-class : goal.invariant-loop-class
invariant-loop-class l = list_any (same_class l.above) l.class-iterator
    ≡ list_any (same_class l.above) (superclasses_from l.set l.fn.below)
