use Rattle.std.proofs.Common.{◌≡◌, map, take}
use Rattle.std.specs.List.{filter_map}
use Rattle.method_places.specs.bodies.Places.{part_row}
use Rattle.method_places.proofs.places.part_of.Given as goal

abbrev pub invariant-loop-rows : goal.invariant-loop-rows
invariant-loop-rows l =
    l.lists ≡ map (filter_map (part_row l.packages l.keys l.part)) (take l.rows-index l.table)
