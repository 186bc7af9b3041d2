use Rattle.std.proofs.Common.{◌≡◌, ◌<◌, true}
use Rattle.class_pool.specs.declared.id.ClassId.{ClassId}
use Rattle.class_pool.specs.bodies.Filling.{AreFilled, IsFilling, Keeps, is_filled}
use Rattle.class_pool.specs.bodies.Graph.{number}
use Rattle.class_pool.specs.Hierarchy.{IsClass, interfaces}
use Rattle.class_pool.proofs.hierarchy.superinterfaces.fill_each.Given as goal

abbrev pub invariant-loop-place : goal.invariant-loop-place
invariant-loop-place l = record {
  filling : IsFilling l.classes l.filling;
  keeps : Keeps l.fn.filling.filled.items l.filling.filled.items;
  more : (a : ClassId) → IsClass l.classes a → number a < l.place
      → AreFilled l.fn.filling.filled.items (interfaces l.classes a) → is_filled l.filling.filled.items a ≡ true;
}
