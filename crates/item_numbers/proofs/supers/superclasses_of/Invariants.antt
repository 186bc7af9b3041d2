use Rattle.std.proofs.Common.{◌≡◌, ◌-◌, ◌++◌, []}
use Rattle.std.specs.Option.{IfSome, option_map_or}
use Rattle.class_pool.specs.Hierarchy.{IsClass}
use Rattle.class_pool.specs.Walk.{superclasses_from, upwards}
use Rattle.class_pool.specs.declared.id.ClassId.TheVariants.{Prog}
use Rattle.item_numbers.proofs.supers.superclasses_of.Given as goal

abbrev pub invariant-loop : goal.invariant-loop
invariant-loop l = record {
  there : IfSome l.next (IsClass l.set);
  ids : l.ids.items ++ option_map_or (upwards (8589934592 - l.counter) l.set) l.next []
      ≡ superclasses_from l.set (Prog l.number);
}
