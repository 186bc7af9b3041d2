use Rattle.std.proofs.Common.{◌≡◌, map, take}
use Rattle.std.specs.List.{filter_map}
use Rattle.override_pairs.specs.bodies.Free.{free_row}
use Rattle.override_pairs.proofs.free.free_of.Given as goal

abbrev pub invariant-loop-rows : goal.invariant-loop-rows
invariant-loop-rows l = l.lists ≡ map (filter_map (free_row l.hidden)) (take l.rows-index l.table)
