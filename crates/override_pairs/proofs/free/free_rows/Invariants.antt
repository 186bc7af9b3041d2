use Rattle.std.proofs.Common.{◌≡◌, take}
use Rattle.std.specs.List.{filter_map}
use Rattle.override_pairs.specs.bodies.Free.{free_row}
use Rattle.override_pairs.proofs.free.free_rows.Given as goal

abbrev pub invariant-loop-row : goal.invariant-loop-row
invariant-loop-row l = l.free ≡ filter_map (free_row l.hidden) (take l.row-index l.rows)
