use Rattle.std.proofs.Common.{◌≡◌, ◌++◌}
use Rattle.class_pool.specs.Walk.{superclasses_from}
use Rattle.class_pool.proofs.upwards.superclasses_of.Given as goal

abbrev pub invariant-loop-class : goal.invariant-loop-class
invariant-loop-class l = l.ids ++ l.class-iterator ≡ superclasses_from l.set l.id
