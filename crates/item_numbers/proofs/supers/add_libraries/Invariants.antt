use Rattle.std.proofs.Common.{◌≡◌, ◌++◌, take}
use Rattle.std.specs.List.{filter}
use Rattle.class_pool.specs.Walk.{each_once}
use Rattle.item_numbers.specs.bodies.Supers.{is_library}
use Rattle.item_numbers.proofs.supers.add_libraries.Given as goal

abbrev pub invariant-loop-id : goal.invariant-loop-id
invariant-loop-id l = l.found.items
    ≡ l.fn.found.items ++ each_once l.fn.found.items (filter is_library (take l.id-index l.ids))
