use Rattle.std.proofs.Common.{◌≡◌, drop}
use Rattle.std.specs.List.{list_all}
use Rattle.class_pool.specs.bodies.Filling.{is_filled}
use Rattle.class_pool.proofs.hierarchy.superinterfaces.are_filled.Given as goal

abbrev pub invariant-loop-id : goal.invariant-loop-id
invariant-loop-id l = list_all (is_filled l.filled) l.ids ≡ list_all (is_filled l.filled) (drop l.id-index l.ids)
