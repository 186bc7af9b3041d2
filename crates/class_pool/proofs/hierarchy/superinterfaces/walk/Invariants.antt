use Rattle.std.proofs.Common.{◌≡◌, ◌∷◌, ◌++◌, take}
use Rattle.std.specs.List.{flat_map}
use Rattle.class_pool.specs.bodies.Lists.{list_at}
use Rattle.class_pool.specs.Walk.{each_once}
use Rattle.class_pool.proofs.hierarchy.superinterfaces.walk.Given as goal

abbrev pub invariant-loop-id : goal.invariant-loop-id
invariant-loop-id l = record {
  count : l.met.count ≡ l.fn.met.count;
  ids : l.met.ids ≡ l.fn.met.ids ++ each_once l.fn.met.ids (flat_map (λ i. i ∷ list_at l.lists i)
      (take l.id-index l.interfaces));
}
