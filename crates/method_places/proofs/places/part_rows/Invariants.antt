use Rattle.std.proofs.Common.{◌≡◌, take}
use Rattle.std.specs.List.{filter_map}
use Rattle.method_places.specs.bodies.Places.{part_row}
use Rattle.method_places.proofs.places.part_rows.Given as goal

abbrev pub invariant-loop-row : goal.invariant-loop-row
invariant-loop-row l = l.placed ≡ filter_map (part_row l.packages l.keys l.part) (take l.row-index l.rows)
