use Rattle.std.proofs.Common.{◌-◌, ◌<◌, length}
use Rattle.class_pool.specs.Found.{named_at}
use Rattle.class_pool.specs.Walk.{superclasses_from, upwards}
use Rattle.class_pool.specs.declared.id.ClassId.TheVariants.{Prog}
use Rattle.item_numbers.specs.bodies.Alone.{AreUndeclared}
use Rattle.item_numbers.proofs.above.is_declared_above.Given as goal

abbrev pub invariant-loop : goal.invariant-loop
invariant-loop l = record {
  there : l.next < length l.set;
  rest : AreUndeclared l.set (named_at l.set l.m) (upwards (8589934592 - l.counter) l.set (Prog l.next))
      → AreUndeclared l.set (named_at l.set l.m) (superclasses_from l.set (Prog l.number));
}
