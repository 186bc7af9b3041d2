use Rattle.std.proofs.Common.{◌≡◌, ◌<◌, true}
use Rattle.class_pool.specs.declared.id.ClassId.{ClassId}
use Rattle.class_pool.specs.bodies.Filling.{IsFilling, is_filled}
use Rattle.class_pool.specs.Hierarchy.{IsClass}
use Rattle.class_pool.specs.Ranks.{HasRanks}
use Rattle.class_pool.proofs.hierarchy.superinterfaces.superinterfaces_of.Given as goal

abbrev pub invariant-loop : goal.invariant-loop
invariant-loop l = record {
  filling : IsFilling l.classes l.filling;
  low : (r : HasRanks l.classes) (a : ClassId) → IsClass l.classes a → r.rank a < l.counter
      → is_filled l.filling.filled.items a ≡ true;
}
