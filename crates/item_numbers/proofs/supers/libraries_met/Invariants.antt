use Rattle.std.proofs.Common.{◌≡◌, ◌++◌, [], take}
use Rattle.std.specs.List.{filter, flat_map}
use Rattle.class_pool.specs.Walk.{each_once}
use Rattle.item_numbers.specs.bodies.Supers.{is_library, own_once}
use Rattle.item_numbers.proofs.supers.libraries_met.Given as goal

abbrev pub invariant-loop-class : goal.invariant-loop-class
invariant-loop-class l = l.ids.items
    ≡ each_once [] (filter is_library (l.chain ++ flat_map (own_once l.set) (take l.class-index l.chain)))
