use Rattle.std.proofs.Common.{◌≡◌, length}
use Rattle.class_pool.specs.declared.id.ClassId.TheVariants.{Lib}
use Rattle.item_numbers.specs.bodies.Alone.{AreAlone}
use Rattle.method_places.proofs.calls.declared_of.Given as goal

abbrev pub invariant-loop-at : goal.invariant-loop-at
invariant-loop-at l = record {
  long : length l.flags ≡ l.at;
  alone : AreAlone l.alike.set.now (Lib l.id) l.flags;
}
